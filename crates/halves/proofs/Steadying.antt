-- A fringe that stays in order and keeps its capacity.
use Rattle.std.proofs.Common.{refl, ◌∙◌}
use Rattle.fringe.specs.Fringes.{Meaning}
use Rattle.halves.specs.Agreement.{Steady}

-- nothing was done to it
pub steady_still : {C W : Type 0} {a : Meaning C} → W → Steady W a a
steady_still w = record { in_order = w; same_capacity = refl }

-- one thing after another
pub steady_on : {C W W' : Type 0} {a b c : Meaning C} → Steady W a b → (W → Steady W' b c) → Steady W' a c
steady_on s h = let t = h s.in_order in record { in_order = t.in_order; same_capacity = t.same_capacity ∙ s.same_capacity }

pub steady_then : {W W' W'' C : Type 0} {a b c : Meaning C} → (W → Steady W' a b) → (W' → Steady W'' b c) → W → Steady W'' a c
steady_then h k w = steady_on (h w) k
