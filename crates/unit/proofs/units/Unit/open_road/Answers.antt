use Rattle.unit.proofs.Calls.{opening}
use Rattle.unit.proofs.units.Unit.open_road.Goals as goal

pub returns : goal.returns
returns g c =
    let self = c.args.self.now in
    opening g.M.Order.thing g.M.Order.leq g.M.Measure.plus g.M.Measure.nil g.M.Measure.top g.M.Measure.cost g.M.Measure.decoded
    (g.G.Map.model self.map.below.below) c.args.road self c.open.new.self c.open.result c.open.ensures
