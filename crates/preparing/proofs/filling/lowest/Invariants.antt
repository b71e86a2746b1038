use Rattle.std.proofs.Common.{ℕ, ◌<◌}
use Rattle.map.specs.Model.{Inhabits}
use Rattle.preparing.proofs.filling.lowest.Given as goal

abbrev pub invariant-loop-i : goal.invariant-loop-i
invariant-loop-i g l = (v : ℕ) → v < l.i → Inhabits (g.G.Map.model l.map) l.district.0 v → ⊥
