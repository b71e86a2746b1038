-- How the entries of a heap are put in order.
use Rattle.std.specs.Prelude.{◌≡◌, ℕ, ◌+◌, ◌*◌, ◌<◌, ◌≤◌, Bool, true, length, Some, None, Option, ◌≢◌}
use Rattle.fringe.specs.declared.place.Place.{Place}
use Rattle.fringe.specs.Entries.{ahead}
use Rattle.heap.specs.declared.Rows.{Rows}
use Rattle.heap.specs.Heaps.{cost_at, counted, entry_at, parent}

-- What stands at i and j is exchanged, and nothing else.
abbrev pub Exchange : {E : Type 0} → (ℕ → E) → (ℕ → E) → ℕ → ℕ → Type 0
Exchange at at' i j = (at' i ≡ at j) × (at' j ≡ at i) × ((k : ℕ) → (k ≢ i) → (k ≢ j) → at' k ≡ at k)

module _ {C : Type 0} where
  -- The entries at i and j are exchanged.
  abbrev pub Swapped : Rows C → Rows C → ℕ → ℕ → Type 0
  Swapped before after i j = (d : Place × C) → Exchange (entry_at before d) (entry_at after d) i j

  -- The same entries count, perhaps at other positions.
  pub record Reordered (before after : Rows C) : Type 0 where
    pub same_len : after.len ≡ before.len
    pub same_capacity : length after.positions.now ≡ length before.positions.now
    pub same_held : (p : ℕ) → cost_at (counted after) p ≡ cost_at (counted before) p

module _ {E : Type 0} (leq : E → E → Bool) (n : ℕ) (at : ℕ → E) (i : ℕ) where
  -- In order, but the entry at i may come before its parent; its children do not come before that parent.
  pub record Rising : Type 0 where
    pub others : (k : ℕ) → 0 < k → k < n → (k ≢ i) → leq (at (parent k)) (at k) ≡ true
    pub across : (k : ℕ) → 0 < k → k < n → parent k ≡ i → 0 < i → leq (at (parent i)) (at k) ≡ true

  -- In order, but the children of the entry at i may come before it; they do not come before its parent.
  pub record Sinking : Type 0 where
    pub others : (k : ℕ) → 0 < k → k < n → (parent k ≢ i) → leq (at (parent k)) (at k) ≡ true
    pub across : (k : ℕ) → 0 < k → k < n → parent k ≡ i → 0 < i → leq (at (parent i)) (at k) ≡ true

module _ {C T : Type 0} (thing : C → T) (leq : T → T → Bool) where
  -- The entries are in order but for the one at i, which may have to rise.
  abbrev pub UpTo : Rows C → ℕ → Type 0
  UpTo rows i = (d : Place × C) → Rising (ahead thing leq) rows.len (entry_at rows d) i

  -- The entries are in order but for the one at i, which may have to sink.
  abbrev pub DownFrom : Rows C → ℕ → Type 0
  DownFrom rows i = (d : Place × C) → Sinking (ahead thing leq) rows.len (entry_at rows d) i

  -- The entry at c is a child of the one at i, and no child comes before it.
  pub record FirstOfChildren (rows : Rows C) (i c : ℕ) : Type 0 where
    pub child : parent c ≡ i
    pub later : i < c
    pub within : c < rows.len
    pub first : (k : ℕ) (d : Place × C) → 0 < k → k < rows.len → parent k ≡ i → ahead thing leq (entry_at rows d c) (entry_at rows d k) ≡ true

  -- The first child of the entry at i, or it has none.
  abbrev pub FirstChild : Rows C → ℕ → Option ℕ → Type 0
  FirstChild rows i (Some c) = FirstOfChildren rows i c
  FirstChild rows i None = rows.len ≤ 2 * i + 1
