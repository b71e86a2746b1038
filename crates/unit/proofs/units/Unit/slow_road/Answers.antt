use Rattle.unit.proofs.Calls.{slowing_to}
use Rattle.unit.proofs.units.Unit.slow_road.Goals as goal

pub returns : goal.returns
returns g c =
    let self = c.args.self.now in
    slowing_to g.M.Order.thing g.M.Order.leq g.M.Measure.plus g.M.Measure.nil g.M.Measure.top g.M.Measure.cost g.M.Measure.decoded
    (g.G.Map.model self.map.below.below) c.args.road self c.args.seconds c.slow.new.self c.slow.result c.slow.ensures
