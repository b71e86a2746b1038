use Rattle.unit.proofs.Calls.{clearing}
use Rattle.unit.proofs.units.Unit.clear_road.Goals as goal

pub returns : goal.returns
returns g c =
    let self = c.args.self.now in
    clearing g.M.Order.thing g.M.Order.leq g.M.Measure.plus g.M.Measure.nil g.M.Measure.top g.M.Measure.cost g.M.Measure.decoded
    (g.G.Map.model self.map.below.below) c.args.road self c.clear.new.self c.clear.result c.clear.ensures
