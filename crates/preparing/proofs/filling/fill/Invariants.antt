use Rattle.preparing.proofs.Entered.{Entered}
use Rattle.preparing.proofs.filling.fill.Given as goal

abbrev pub invariant-loop-j : goal.invariant-loop-j
invariant-loop-j g l =
    let o = g.M.Order in
    let m = g.M.Measure in
    Entered o.thing m.decoded m.top (g.G.Map.model l.map) l.labels m.nil l.district.0 l.firsts l.row l.j
