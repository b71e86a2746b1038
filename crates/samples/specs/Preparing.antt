-- Preparing the row of a district, as a definition that computes. A spread begins at all places of the district at zero,
-- and settles the nearest reached place over and over, relaxing its open roads on the base map, until no place is reached.
use Rattle.std.specs.Prelude.{ℕ, zero, suc, ◌<◌, Bool, true, false, List, [], ◌∷◌, ◌==◌, nat_lt}
use Rattle.std.proofs.Math.Option.{Option as Maybe, some, none}
use Rattle.map.specs.Model.{MapModel, WellFormed}
use Rattle.routes.specs.States.{Start, Label, Blank, Reached, Settled}
use Rattle.routes.specs.Prepared.{RowHolds}
use Rattle.routes.specs.Search.{Ops, ops_of, Found, label_at, nearest}
use Rattle.routes.specs.Rows.{look}
use Rattle.routes.specs.Sweeps.{root, sweep_on}
use Rattle.routes.specs.Asking.{open_roads, Table, Consistent}

-- The labels of a spread, and the places that it settled, the latest first.
pub record Spread (K : Type 0) : Type 0 where
  pub labels : List (Label K)
  pub settled : List ℕ

-- The place u, if there was none before it and the test passes.
abbrev pub or_else : Maybe ℕ → Bool → ℕ → Maybe ℕ
or_else (some v) b u = some v
or_else none true u = some u
or_else none false u = none

-- The place of the district j that was settled first, if one was.
abbrev pub first_in : (ℕ → ℕ) → List ℕ → ℕ → Maybe ℕ
first_in district [] j = none
first_in district (u ∷ l) j = or_else (first_in district l j) (district u == j) u

-- The lowest place of the district i among the n places from v on, if there is one.
abbrev pub lowest_from : (ℕ → ℕ) → ℕ → ℕ → ℕ → Maybe ℕ
lowest_from district i v zero = none
lowest_from district i v (suc n) = elim (district v == i) [ true ↦ some v | false ↦ lowest_from district i (suc v) n ]

-- A place as the start and the end of a way, if there is one.
abbrev pub twice : Maybe ℕ → Maybe (ℕ × ℕ)
twice none = none
twice (some p) = some (p, p)

module _ {K : Type 0} where
  -- The labels of the n places from v on, before a spread from the district i: its own places are reached at zero.
  abbrev pub sown : K → (ℕ → ℕ) → ℕ → ℕ → ℕ → List (Label K)
  sown nil district i v zero = []
  sown nil district i v (suc n) = elim (district v == i) [ true ↦ Reached nil Start | false ↦ Blank ] ∷ sown nil district i (suc v) n

  -- The cost in a label, and otherwise blocked.
  abbrev pub cost_or : K → Label K → K
  cost_or blocked Blank = blocked
  cost_or blocked (Reached c o) = c
  cost_or blocked (Settled c o) = c

  -- The entry of a district by its first settled place: the cost of that, and blocked where there is none.
  abbrev pub entry_by : K → List (Label K) → Maybe ℕ → K
  entry_by blocked l none = blocked
  entry_by blocked l (some v) = cost_or blocked (label_at l v)

  -- The pair of a district by its first settled place v: where the chain of v begins, and v. Where there is none, no pair.
  abbrev pub pair_by : ℕ → List (Label K) → Maybe ℕ → Maybe (ℕ × ℕ)
  pair_by n l none = none
  pair_by n l (some v) = some (root (suc n) l v, v)

module _ {K : Type 0} (O : Ops K) (price : ℕ → ℕ → K) (base : MapModel) where
  open O use {free, blocked}

  -- The place found is settled and its open roads are relaxed.
  abbrev pub spread_on : Spread K → Found K → Spread K
  spread_on x f = record { labels = sweep_on O (look (open_roads price base f.place)) x.labels f; settled = f.place ∷ x.settled }

  -- At most n turns of a spread, each on the nearest reached place.
  abbrev pub spread : ℕ → Spread K → Spread K
  spread zero x = x
  spread (suc n) x = elim (nearest O 0 x.labels) [ none ↦ x | some f ↦ spread n (spread_on x f) ]

  -- The spread from the district i before its first turn.
  abbrev pub at_first : ℕ → Spread K
  at_first i = record { labels = sown free base.district i 0 base.places; settled = [] }

  -- The whole spread. Each turn settles a place, so as many turns as places suffice.
  abbrev pub spread_from : ℕ → Spread K
  spread_from i = spread base.places (at_first i)

  -- The entry from the district i to the district j, by the end of a spread from i.
  abbrev pub entry_after : ℕ → Spread K → ℕ → K
  entry_after i x j = elim (j == i) [ true ↦ free | false ↦ entry_by blocked x.labels (first_in base.district x.settled j) ]

  -- Their pair, likewise: for the district itself its lowest place twice.
  abbrev pub pair_after : ℕ → Spread K → ℕ → Maybe (ℕ × ℕ)
  pair_after i x j = elim (j == i) [
    | true ↦ twice (lowest_from base.district i 0 base.places)
    | false ↦ pair_by base.places x.labels (first_in base.district x.settled j)
  ]

  -- The entry from the district i to the district j.
  abbrev pub row_entry : ℕ → ℕ → K
  row_entry i j = entry_after i (spread_from i) j

  -- Their pair.
  abbrev pub row_pair : ℕ → ℕ → Maybe (ℕ × ℕ)
  row_pair i j = pair_after i (spread_from i) j

  -- The table of the base map, of which these rows are prepared.
  abbrev pub table_of : (ℕ → Bool) → Table K
  table_of prepared = record { prepared = prepared; entry = row_entry; pair = row_pair }

module _ {K T : Type 0} (thing : K → T) (leq : T → T → Bool) (plus : K → K → K) (nil blocked : K) (price : ℕ → ℕ → K) where
  -- This preparing gives rows that hold, on each map that keeps the rules of maps.
  abbrev pub RowsHold : Type 0
  RowsHold =
      (base : MapModel) → WellFormed base → (i : ℕ) → i < base.districts →
      RowHolds thing leq plus nil blocked price base i (row_entry (ops_of thing leq plus nil blocked) price base i) (row_pair (ops_of thing leq plus nil blocked) price base i)

  -- Each such map with all its rows prepared is all that a question may be asked about.
  abbrev pub MayBeAsked : Type 0
  MayBeAsked =
      (base : MapModel) → WellFormed base →
      Consistent thing leq plus nil blocked price base base (table_of (ops_of thing leq plus nil blocked) price base (λ i. nat_lt i base.districts)) true
