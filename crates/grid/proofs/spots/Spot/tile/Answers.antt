use Rattle.std.proofs.Common.{arith}
use Rattle.map.proofs.Grids.{district_known}
use Rattle.grid.specs.Made.{figures_of, in_range}
use Rattle.grid.proofs.spots.Spot.tile.Goals as goal

pub returns-clause-few : goal.returns-clause-few
returns-clause-few c =
    let s = c.args.self.now in
    let g = s.grid.now in
    let k = district_known (figures_of g) (in_range g) s.place s.there in
    let h = g.few in
    rw (c.row.ensures.value, c.column.ensures.value, c.tiles_along.ensures) (omega arith)
