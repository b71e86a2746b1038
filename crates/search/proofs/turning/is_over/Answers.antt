use Rattle.std.proofs.Common.{◌∙◌}
use Rattle.search.proofs.Stops.{over_is}
use Rattle.search.proofs.turning.is_over.Goals as goal

pub returns : goal.returns
returns g c = λ laws f h mine theirs a b.
    let o = g.M.Order in
    let k = g.M.Measure in
    c.is_done.ensures
    ∙ over_is o.thing o.leq g.met.M.Order.ordered k.plus k.nil k.top k.cost k.code laws f h (g.F.Fringe.meaning c.args.near.now) (g.N.Fringe.meaning c.args.far.now)
    mine theirs a b c.args.best c.least.result c.least-2.result (c.least.ensures a.in_order) (c.least-2.ensures b.in_order)
