use Rattle.std.proofs.Common.{◌≡◌}
use Rattle.map.specs.Model.{leaving}
use Rattle.routes.specs.Asking.{some_leaves}
use Rattle.borders.proofs.some_leaves.Given as goal

-- whether one of the roads still to come leaves is whether one of all does
abbrev pub invariant-loop-number : goal.invariant-loop-number
invariant-loop-number g l =
    let m = g.G.Map.model l.map in
    some_leaves m l.district.0 l.number-iterator ≡ some_leaves m l.district.0 (leaving m l.fn.u.0)
