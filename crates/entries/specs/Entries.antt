-- Lists of entries, each of them for a road: `road_of` gives an entry's road by its number.
use Rattle.std.specs.Prelude.{◌≡◌, ℕ, ◌+◌, ◌<◌, ◌≤◌, true, cond, List, length, take, drop, find, is_some, Some, None, Option, ◌==◌, ◌≢◌, slice_index_or}
use Rattle.std.specs.List.{AllPairs}
use Rattle.map.specs.declared.numbers.RoadId.{RoadId}

-- What a table keeps: the entries in use, in order, and what stands in the spare places behind them.
pub record Kept (X : Type 0) : Type 0 where
  pub used : List X
  pub spare : List X

-- The first n of these places are in use.
abbrev pub kept : {X : Type 0} → ℕ → List X → Kept X
kept n places = record { used = take n places; spare = drop n places }

-- Where only the road matters, an entry is the road's number.
abbrev pub closed_road : RoadId → ℕ
closed_road x = x.0

-- The entry for the road r, the first if there were several.
unfoldable pub entry_for : {X : Type 0} → (X → ℕ) → List X → ℕ → Option X
entry_for road_of es r = find (λ x. road_of x == r) es

-- What looking for the road r answers: where an entry for it stands, or nothing if there is none.
abbrev pub Found : {X : Type 0} → (X → ℕ) → List X → ℕ → Option ℕ → Type 0
Found road_of es r None = entry_for road_of es r ≡ None
Found {X} road_of es r (Some i) = (i < length es) × ((d : X) → road_of (slice_index_or es i d) ≡ r)

-- No two of the entries are for one road.
abbrev pub Apart : {X : Type 0} → (X → ℕ) → List X → Type 0
Apart road_of es = AllPairs (λ x y. road_of x ≢ road_of y) es

-- What holds of every table: it has 64 places, up to 64 entries, and no two of them are for one road.
pub record Limited {X : Type 0} (road_of : X → ℕ) (t : Kept X) : Type 0 where
  pub wide : length t.used + length t.spare ≡ 64
  pub few : length t.used ≤ 64
  pub distinct : Apart road_of t.used

-- The first `len` of 64 places are in use, by entries of which no two are for one road.
pub record Tidy {X : Type 0} (road_of : X → ℕ) (len : ℕ) (entries : List X) : Type 0 where
  pub wide : length entries ≡ 64
  pub few : len ≤ 64
  pub distinct : Apart road_of (take len entries)

-- The road of the entry x has that entry: in the place of its own if it had one, and otherwise in one more. Every other
-- road's entry is as before, and stands where it stood.
pub record Put {X : Type 0} (road_of : X → ℕ) (before after : List X) (x : X) : Type 0 where
  pub reads : (q : ℕ) → entry_for road_of after q ≡ cond (road_of x == q) (Some x) (entry_for road_of before q)
  pub count : length after ≡ length before + cond (is_some (entry_for road_of before (road_of x))) 0 1
  pub elsewhere : (i : ℕ) (d : X) → i < length before → road_of (slice_index_or before i d) ≢ road_of x →
      slice_index_or after i d ≡ slice_index_or before i d

-- The road r, which had an entry, has none, with one entry less, and every other road's entry is as before.
pub record Lost {X : Type 0} (road_of : X → ℕ) (before after : List X) (r : ℕ) : Type 0 where
  pub there : is_some (entry_for road_of before r) ≡ true
  pub reads : (q : ℕ) → entry_for road_of after q ≡ cond (r == q) None (entry_for road_of before q)
  pub count : length after + 1 ≡ length before
