-- What a heap means, and when it is in order.
use Rattle.std.specs.Prelude.{◌≡◌, ℕ, ◌-◌, ◌/◌, ◌<◌, Bool, true, cond, List, [], ◌∷◌, length, take, Some, None, Option, ◌==◌, slice_index_or}
use Rattle.fringe.specs.declared.place.Place.{Place}
use Rattle.fringe.specs.Entries.{ahead}
use Rattle.fringe.specs.Fringes.{Meaning}
use Rattle.heap.specs.declared.Rows.{Rows}

-- The number of an entry's place.
abbrev pub place_of : {C : Type 0} → Place × C → ℕ
place_of e = e.0.0

-- The cost of the first entry of the place p.
abbrev pub cost_at : {C : Type 0} → List (Place × C) → ℕ → Option C
cost_at [] p = None
cost_at (e ∷ es) p = cond (place_of e == p) (Some e.1) (cost_at es p)

-- The entries that count.
abbrev pub counted : {C : Type 0} → Rows C → List (Place × C)
counted rows = take rows.len rows.entries.now

-- What a heap means: it takes the places that have a position, and holds the entries that count.
abbrev pub meaning_of : {C : Type 0} → Rows C → Meaning C
meaning_of rows = record { capacity = length rows.positions.now; held = cost_at (counted rows) }

-- The entry that stands at the position k. Within the row the default d is never read.
abbrev pub entry_at : {C : Type 0} → Rows C → Place × C → ℕ → Place × C
entry_at rows d k = slice_index_or rows.entries.now k d

-- The position of the parent of the entry at k.
abbrev pub parent : ℕ → ℕ
parent k = (k - 1) / 2

-- None of n entries comes before its parent.
abbrev pub Ordered : {E : Type 0} → (E → E → Bool) → ℕ → (ℕ → E) → Type 0
Ordered leq n at = (k : ℕ) → 0 < k → k < n → leq (at (parent k)) (at k) ≡ true

module _ {C T : Type 0} (thing : C → T) (leq : T → T → Bool) where
  -- The entries that count are in heap order.
  abbrev pub InOrder : Rows C → Type 0
  InOrder rows = (d : Place × C) → Ordered (ahead thing leq) rows.len (entry_at rows d)
