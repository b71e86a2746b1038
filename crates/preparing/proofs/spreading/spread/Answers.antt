use Rattle.std.proofs.Common.{refl}
use Rattle.preparing.specs.Runs.{begun}
use Rattle.halves.proofs.Steadying.{steady_on}
use Rattle.preparing.proofs.Turns.{one_more}
use Rattle.preparing.proofs.spreading.spread.Goals as goal

pub loop-taken-init : goal.loop-taken-init
loop-taken-init g c = ((λ a. (begun, a)), (λ w. record { in_order = w; same_capacity = refl }))

pub loop-taken-preserved : goal.loop-taken-preserved
loop-taken-preserved g c =
    let s = c.in-Some.ensures in (
      (λ a.
          let was = c.loop-taken.invariant.0 a in
          (one_more _ _ _ _ _ _ _ c.in-Some.best.0 c.in-Some.best.1 was.0 (s.labels was.1) c.expand.ensures.labels c.note.ensures, c.expand.ensures.agree (s.agree was.1))),
      (λ w. steady_on (steady_on (c.loop-taken.invariant.1 w) s.steady) c.expand.ensures.steady),
    )
