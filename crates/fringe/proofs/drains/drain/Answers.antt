use Rattle.std.proofs.Common.{◌<◌, length, arith, length-set}
use Rattle.fringe.proofs.Drawing.{past_set, drawn_more}
use Rattle.fringe.proofs.drains.drain.Goals as goal

pub loop-i-preserved : goal.loop-i-preserved
loop-i-preserved g c =
    let fits : c.loop-i.i < length c.loop-i.out = omega arith in (
      omega (arith, length-set c.loop-i.out c.loop-i.i c.in-Some.best),
      past_set c.loop-i.out c.args.out.now c.loop-i.i c.in-Some.best c.loop-i.invariant.1,
      (λ w. c.in-Some.ensures.well (c.loop-i.invariant.2 w)),
      (λ w.
          drawn_more g.C.Order.thing g.C.Order.leq {after = g.F.Fringe.meaning c.take.new.self} c.in-Some.best fits
          (c.loop-i.invariant.3 w) (c.in-Some.ensures.taken (c.loop-i.invariant.2 w))),
    )
