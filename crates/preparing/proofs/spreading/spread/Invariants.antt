use Rattle.halves.specs.Agreement.{Agree, Steady}
use Rattle.preparing.specs.Runs.{Runs}
use Rattle.preparing.proofs.spreading.spread.Given as goal

abbrev pub invariant-loop-taken : goal.invariant-loop-taken
invariant-loop-taken g l =
    let o = g.M.Order in
    let m = g.M.Measure in
    let f = g.F.Fringe in
    (Agree o.thing o.leq (f.well l.initial.fringe) (f.meaning l.initial.fringe) l.initial.labels →
    Runs o.thing o.leq m.plus m.cost (g.G.Map.model l.map) l.initial.labels l.initial.firsts l.taken l.labels l.firsts
    × Agree o.thing o.leq (f.well l.fringe) (f.meaning l.fringe) l.labels)
    × (f.well l.initial.fringe → Steady (f.well l.fringe) (f.meaning l.initial.fringe) (f.meaning l.fringe))
