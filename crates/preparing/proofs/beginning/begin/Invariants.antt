use Rattle.std.proofs.Common.{length}
use Rattle.preparing.proofs.Sowing.{Sowing}
use Rattle.preparing.proofs.beginning.begin.Given as goal

abbrev pub invariant-loop-i : goal.invariant-loop-i
invariant-loop-i g l =
    let o = g.M.Order in
    let f = g.F.Fringe in
    Sowing o.thing o.leq f.well f.meaning (g.G.Map.model l.map) l.district.0 g.M.Measure.nil (length l.initial.labels) l.initial.fringe l.labels l.fringe l.i
