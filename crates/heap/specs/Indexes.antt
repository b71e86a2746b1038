-- Where the entries of a heap stand.
use Rattle.std.specs.Prelude.{◌≡◌, ℕ, ◌<◌, ◌≤◌, length, Some, None, Option, ◌≢◌, slice_index, slice_set}
use Rattle.fringe.specs.declared.place.Place.{Place}
use Rattle.heap.specs.declared.Rows.{Rows}
use Rattle.heap.specs.Heaps.{place_of, entry_at}

module _ {C : Type 0} where
  -- The place of each entry that counts is below the capacity.
  abbrev pub Inside : Rows C → Type 0
  Inside rows = (k : ℕ) (d : Place × C) → k < rows.len → place_of (entry_at rows d k) < length rows.positions.now

  -- Each entry that counts stands at the position of its place.
  abbrev pub There : Rows C → Type 0
  There rows = (k : ℕ) (d : Place × C) → k < rows.len → slice_index rows.positions.now (place_of (entry_at rows d k)) ≡ k

  -- The rows are of one length, which is small, what counts lies within them, and each entry is found by its place.
  pub record Indexed (rows : Rows C) : Type 0 where
    pub level : length rows.entries.now ≡ length rows.positions.now
    pub few : length rows.positions.now ≤ 1024
    pub fits : rows.len ≤ length rows.positions.now
    pub inside : Inside rows
    pub there : There rows

  -- The entry of the place p counts and stands at the position; or no entry that counts is the place's.
  abbrev pub Found : Rows C → ℕ → Option ℕ → Type 0
  Found rows p (Some k) = (k < rows.len) × ((d : Place × C) → place_of (entry_at rows d k) ≡ p)
  Found rows p None = (k : ℕ) (d : Place × C) → k < rows.len → place_of (entry_at rows d k) ≢ p

  -- The position k is noted of the place whose entry stands there.
  pub record Noted (before after : Rows C) (k : ℕ) : Type 0 where
    pub same_len : after.len ≡ before.len
    pub same_entries : after.entries.now ≡ before.entries.now
    pub noted : (d : Place × C) → after.positions.now ≡ slice_set before.positions.now (place_of (entry_at before d k)) k
