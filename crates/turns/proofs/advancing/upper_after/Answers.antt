use Rattle.std.proofs.Common.{sym, ap, ◌∙◌}
use Rattle.routes.specs.Labels.{label_view}
use Rattle.routes.specs.Search.{ops_of, through}
use Rattle.turns.proofs.Lowering.{lowered_here}
use Rattle.turns.proofs.advancing.upper_after.Goals as goal

pub returns-then-eq : goal.returns-then-eq
returns-then-eq g c = λ f.
    let O = ops_of g.M.Order.thing g.M.Order.leq g.M.Measure.plus g.M.Measure.nil g.M.Measure.top in
    c.upper_through.ensures f ∙ ap (λ l. through O (label_view f l) c.args.cost c.args.upper) c.label_at.ensures
    ∙ sym (lowered_here O f c.args.others.now c.args.u.0 c.args.cost c.args.upper c.args.pair c.in-Some.ends c.in-Some.is
    (sym c.if-eq.ensures))
