-- The entries of a row, from the labels at the end of a spread.
use Rattle.std.specs.Prelude.{◌≡◌, ℕ, suc, ◌<◌, List, length, Some, None, Option, ◌≢◌, slice_index_or}
use Rattle.std.proofs.Math.Option.{some, none}
use Rattle.fringe.specs.declared.place.Place.{Place}
use Rattle.map.specs.Model.{MapModel, Inhabits}
use Rattle.routes.specs.declared.labels.Label.{Label}
use Rattle.routes.specs.declared.labels.Label.TheVariants.{Blank, Reached, Settled}
use Rattle.routes.specs.Labels.{start_at, labels_view}
use Rattle.routes.specs.Prepared.{LowestOf}
use Rattle.routes.specs.Sweeps.{root}
use Rattle.table.specs.declared.entry.Entry.{Entry}
use Rattle.table.specs.Entries.{no_entry}
use Rattle.table.specs.Views.{ends_of}
use Rattle.halves.specs.Labels.{spot}

-- The lowest place of the district d, absent where it has no place.
abbrev pub Lowest : MapModel → ℕ → Option Place → Type 0
Lowest m d None = (v : ℕ) → Inhabits m d v → ⊥
Lowest m d (Some p) = LowestOf m d p.0

-- A place as the start and the end of a way, if there is one.
abbrev pub twice : Option Place → Option (Place × Place)
twice None = None
twice (Some p) = Some (p, p)

-- The cost in a label, and otherwise blocked.
abbrev pub cost_or : {K : Type 0} → K → Label K → K
cost_or blocked Blank = blocked
cost_or blocked (Reached c o) = c
cost_or blocked (Settled c o) = c

module _ {K T : Type 0} (thing : K → T) (decoded : ℕ → K) where
  -- The entry has this cost.
  abbrev pub CostsAs : Entry → K → Type 0
  CostsAs e c = thing (decoded e.number) ≡ thing c

  -- The entry of the district d in its own row: nothing, and its lowest place twice.
  pub record OwnEntry (nil : K) (m : MapModel) (d : ℕ) (e : Entry) : Type 0 where
    pub costs : CostsAs e nil
    pub lowest : Option Place
    pub is_lowest : Lowest m d lowest
    pub pair : e.pair ≡ twice lowest

  module _ (blocked : K) (m : MapModel) (labels : List (Label K)) where
    -- The entry of a district by its first settled place v: the cost of v, and where the chain of v begins, with v.
    pub record EntryOf (v : Place) (e : Entry) : Type 0 where
      pub costs : CostsAs e (cost_or blocked (spot labels v.0))
      pub pair : ends_of e.pair ≡ some (root (suc (length labels)) (labels_view (start_at m) labels) v.0, v.0)

    -- The entry of a district of which no place is settled: blocked, and no pair.
    pub record NoEntry (e : Entry) : Type 0 where
      pub costs : CostsAs e blocked
      pub pair : ends_of e.pair ≡ none

    -- The entry of a district by its first settled place, if it has one.
    abbrev pub EntryBy : Option Place → Entry → Type 0
    EntryBy None e = NoEntry e
    EntryBy (Some v) e = EntryOf v e

    -- The row of the district d, by the first settled places.
    pub record RowBy (nil : K) (d : ℕ) (firsts : List (Option Place)) (row : List Entry) : Type 0 where
      pub own : d < 64 → OwnEntry nil m d (slice_index_or row d no_entry)
      pub others : (j : ℕ) → j < 64 → (j ≢ d) → EntryBy (slice_index_or firsts j None) (slice_index_or row j no_entry)
