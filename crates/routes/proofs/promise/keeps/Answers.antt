use Rattle.routes.proofs.Linked
use Rattle.routes.proofs.promise.keeps.Goals as goal

pub returns : goal.returns
returns g c =
    Linked.promised g.M.Order.thing g.M.Order.leq g.met.M.Order.ordered g.M.Measure.plus g.M.Measure.nil g.M.Measure.top g.M.Measure.cost g.M.Measure.code
    c.requires
