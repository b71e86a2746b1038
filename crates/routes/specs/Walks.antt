-- Walks over any relation `E u v p`, "a road leads from u to v at price p".
use Rattle.std.specs.Prelude.{◌≡◌, ℕ}
use Rattle.routes.specs.Costs.{Costs, Same}

-- a road relation, and its mirror image
abbrev pub Roads : Costs → Type 1
Roads C = ℕ → ℕ → C.Cost → Type 0

abbrev pub Back : (C : Costs) → Roads C → Roads C
Back C E = λ u v p. E v u p

-- a walk from a to b of cost c: the prices summed from the last road to the first, exactly
pub data Walk (C : Costs) (E : ℕ → ℕ → C.Cost → Type 0) : ℕ → ℕ → C.Cost → Type 0 where
  stay : {a : ℕ} → Walk C E a a C.free
  go : {a b d : ℕ} {p c : C.Cost} → E a b p → Walk C E b d c → Walk C E a d (C.◌⊕◌ p c)

-- a walk whose cost stands for c
abbrev pub Way : (C : Costs) → Roads C → ℕ → ℕ → C.Cost → Type 0
Way C E a b c = (w : C.Cost) × Walk C E a b w × Same C w c

-- a walk from one of several starts
abbrev pub WayFrom : (C : Costs) → Roads C → (ℕ → Type 0) → ℕ → C.Cost → Type 0
WayFrom C E starts v c = (a : ℕ) × starts a × Way C E a v c

-- the only start is s
abbrev pub At : ℕ → ℕ → Type 0
At s = λ a. a ≡ s
