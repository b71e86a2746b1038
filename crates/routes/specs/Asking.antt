-- What a question is asked about: the map as it reads now, the base map below the layers, and the rows of the district
-- table as they are stored.
use Rattle.std.specs.Prelude.{◌≡◌, ℕ, ◌<◌, Bool, true, false, cond, not, ◌&&◌, ◌||◌, List, [], ◌∷◌, Some, None, Option, ◌==◌, nat_lt}
use Rattle.std.proofs.Math.Option.{Option as Maybe, none}
use Rattle.fringe.specs.declared.place.Place.{Place}
use Rattle.map.specs.declared.roads.Road.{Road}
use Rattle.map.specs.declared.roads.Mark.{Mark}
use Rattle.map.specs.declared.roads.Mark.TheVariants.{Open, Closed}
use Rattle.map.specs.Model.{MapModel, WellFormed}
use Rattle.routes.specs.Promise.{LeastCost}
use Rattle.routes.specs.Search.{Given, ops_of, answer}
use Rattle.routes.specs.Rows.{Row, look}
use Rattle.routes.specs.Layers.{Layered}
use Rattle.routes.specs.Prepared.{RowHolds}

-- A road may be driven.
abbrev pub is_open : Mark → Bool
is_open Open = true
is_open Closed = false

module _ {K : Type 0} (price : ℕ → ℕ → K) where
  -- A road in front of a row, if it is there and open: the end of it that `far` picks, and its cost.
  abbrev pub in_front : (Road → Place) → Option Road → Row K → Row K
  in_front far None row = row
  in_front far (Some x) row = cond (is_open x.mark) (((far x).0, price x.seconds x.steepness) ∷ row) row

  -- The open roads of these numbers, in order.
  abbrev pub row_of : (Road → Place) → MapModel → List ℕ → Row K
  row_of far m [] = []
  row_of far m (r ∷ rs) = in_front far (m.road r) (row_of far m rs)

  -- The open roads out of a place, each with its end.
  abbrev pub open_roads : MapModel → ℕ → Row K
  open_roads m u = row_of (λ x. x.end) m (m.departures u)

  -- The open roads into a place, each with its start.
  abbrev pub roads_into : MapModel → ℕ → Row K
  roads_into m v = row_of (λ x. x.start) m (m.arrivals v)

-- One of these roads starts or ends in another district than d.
abbrev pub leaves : MapModel → ℕ → Option Road → Bool
leaves m d None = false
leaves m d (Some x) = not (m.district x.start.0 == d) || not (m.district x.end.0 == d)

abbrev pub some_leaves : MapModel → ℕ → List ℕ → Bool
some_leaves m d [] = false
some_leaves m d (r ∷ rs) = leaves m d (m.road r) || some_leaves m d rs

-- A border place has a road of the base map, open or closed, to or from another district.
abbrev pub is_border : MapModel → ℕ → Bool
is_border base u = some_leaves base (base.district u) (base.departures u) || some_leaves base (base.district u) (base.arrivals u)

-- The district table as it is stored: which rows are prepared, the cost in each entry, and its start and end if it has.
pub record Table (K : Type 0) : Type 0 where
  pub prepared : ℕ → Bool
  pub entry : ℕ → ℕ → K
  pub pair : ℕ → ℕ → Maybe (ℕ × ℕ)

module _ {K : Type 0} (zero : K) (price : ℕ → ℕ → K) where
  -- What the search is given. An entry of a row that is not prepared counts as zero. Pairs are used only where both
  -- layers are empty.
  abbrev pub given : (now base : MapModel) → Table K → (empty : Bool) → Given K
  given now base table empty = record {
    size = now.places;
    price = λ u v. cond (nat_lt u now.places) (look (open_roads price now u) v) none;
    district = base.district;
    border = is_border base;
    entry = λ i j. elim (table.prepared i) [ true ↦ table.entry i j | false ↦ zero ];
    pair = λ i j. elim (table.prepared i && empty) [ true ↦ table.pair i j | false ↦ none ];
  }

-- What is known of all that a question is asked about, in a measure of `thing`, `leq`, `plus`, `zero`, `blocked` and `price`.
pub record Consistent {K T : Type 0} (thing : K → T) (leq : T → T → Bool) (plus : K → K → K) (zero blocked : K) (price : ℕ → ℕ → K)
    (now base : MapModel) (table : Table K) (empty : Bool) : Type 0 where
  -- Both maps keep the rules of maps, and one lies over the other.
  pub base_fits : WellFormed base
  pub now_fits : WellFormed now
  pub layered : Layered base now
  -- The prepared rows hold.
  pub rows : (i : ℕ) → table.prepared i ≡ true → RowHolds thing leq plus zero blocked price base i (table.entry i) (table.pair i)
  -- Empty layers leave all roads as they are.
  pub unchanged : empty ≡ true → (r : ℕ) → now.road r ≡ base.road r

-- The promise: whatever is consistent, the search answers each question between two places with a least route, or with
-- nothing exactly where there is no route.
abbrev pub Promised : {K T : Type 0} → (K → T) → (T → T → Bool) → (K → K → K) → K → K → (ℕ → ℕ → K) → Type 0
Promised {K} thing leq plus zero blocked price =
    (now base : MapModel) (table : Table K) (empty : Bool) → Consistent thing leq plus zero blocked price now base table empty →
    (s t : ℕ) → s < now.places → t < now.places →
    LeastCost plus zero price now thing leq s t (answer (ops_of thing leq plus zero blocked) (given zero price now base table empty) s t).found
