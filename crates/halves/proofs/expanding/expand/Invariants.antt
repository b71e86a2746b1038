use Rattle.std.proofs.Common.{◌≡◌}
use Rattle.map.specs.Model.{leaving}
use Rattle.halves.specs.Agreement.{Agree, Steady}
use Rattle.halves.specs.Expansions.{driven_along}
use Rattle.halves.proofs.expanding.expand.Given as goal

-- relaxing the roads still to come comes to relaxing all
abbrev pub invariant-loop-number : goal.invariant-loop-number
invariant-loop-number g l =
    let o = g.M.Order in
    let k = g.M.Measure in
    let f = g.F.Fringe in
    let m = g.G.Map.model l.map in
    record {
      rest : driven_along o.thing o.leq k.plus k.cost m l.cost l.number-iterator l.labels
          ≡ driven_along o.thing o.leq k.plus k.cost m l.cost (leaving m l.fn.u.0) l.initial.labels;
      agree : Agree o.thing o.leq (f.well l.initial.fringe) (f.meaning l.initial.fringe) l.initial.labels
          → Agree o.thing o.leq (f.well l.fringe) (f.meaning l.fringe) l.labels;
      steady : f.well l.initial.fringe → Steady (f.well l.fringe) (f.meaning l.initial.fringe) (f.meaning l.fringe);
    }
