-- Lawful costs whose order is a test, and the operations that a search computes with.
use Rattle.std.specs.Prelude.{◌≡◌, Bool, true, false}
use Rattle.routes.specs.Costs.{Costs}
use Rattle.routes.specs.Search.{Ops}

-- the order as a test
pub record Scale (C : Costs) : Type 0 where
  pub leq : C.Cost → C.Cost → Bool
  pub leq_true : (a b : C.Cost) → leq a b ≡ true → C.◌≼◌ a b
  pub leq_false : (a b : C.Cost) → leq a b ≡ false → C.◌≼◌ a b → ⊥

-- those of lawful costs
abbrev pub ops : (C : Costs) → Scale C → Ops C.Cost
ops C S = record { ◌⊕◌ = C.◌⊕◌; free = C.free; blocked = C.blocked; leq = S.leq }
