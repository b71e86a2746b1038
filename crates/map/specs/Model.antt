-- What a map means to its reader, and the rules that it keeps.
use Rattle.std.specs.Prelude.{◌≡◌, ℕ, ◌<◌, ◌≤◌, Bool, false, cond, List, [], length, Some, None, Option, ◌==◌, nat_lt, slice_index, slice_index_or}
use Rattle.fringe.specs.declared.place.Place.{Place}
use Rattle.map.specs.declared.numbers.District.{District}
use Rattle.map.specs.declared.numbers.RoadId.{RoadId}
use Rattle.map.specs.declared.roads.Road.{Road}

-- The counts of places, districts and road numbers; each place's district; each number's road, if there is one; and the
-- numbers of the roads that leave a place and that end at it, in the order in which they are listed.
pub record MapModel : Type 0 where
  pub places : ℕ
  pub districts : ℕ
  pub roads : ℕ
  pub district : ℕ → ℕ
  pub road : ℕ → Option Road
  pub departures : ℕ → List ℕ
  pub arrivals : ℕ → List ℕ

-- The place p is one of the district d.
pub record Inhabits (m : MapModel) (d p : ℕ) : Type 0 where
  pub known : p < m.places
  pub there : m.district p ≡ d

-- The district d has a place.
pub record Inhabited (m : MapModel) (d : ℕ) : Type 0 where
  pub place : ℕ
  pub inhabits : Inhabits m d place

-- A road of the number r keeps the limits of the map.
pub record RoadFits (m : MapModel) (r : ℕ) (x : Road) : Type 0 where
  pub numbered : r < m.roads
  pub start_known : x.start.0 < m.places
  pub end_known : x.end.0 < m.places
  pub no_loop : x.start.0 ≡ x.end.0 → ⊥
  pub short : x.seconds ≤ 60000
  pub mild : x.steepness ≤ 1000

-- The number r has a road, and the end of it that `end_of` picks is the place p.
pub record Touches (m : MapModel) (end_of : Road → Place) (p r : ℕ) : Type 0 where
  pub is : Road
  pub there : m.road r ≡ Some is
  pub touches : (end_of is).0 ≡ p

-- The number r stands in the list.
pub record Stands (l : List ℕ) (r : ℕ) : Type 0 where
  pub index : ℕ
  pub within : index < length l
  pub same : slice_index_or l index 0 ≡ r

-- The list names each road that touches p with that end exactly once, and nothing else.
pub record Lists (m : MapModel) (end_of : Road → Place) (p : ℕ) (l : List ℕ) : Type 0 where
  pub only : (j : ℕ) → j < length l → Touches m end_of p (slice_index l j)
  pub once : (i j : ℕ) → i < length l → j < length l → slice_index l i ≡ slice_index l j → i ≡ j
  pub all : (r : ℕ) (x : Road) → m.road r ≡ Some x → (end_of x).0 ≡ p → Stands l r

-- The rules that every map keeps.
pub record WellFormed (m : MapModel) : Type 0 where
  pub some_place : 1 ≤ m.places
  pub few_places : m.places ≤ 1024
  pub some_district : 1 ≤ m.districts
  pub few_districts : m.districts ≤ 64
  pub few_roads : m.roads ≤ 4096
  pub district_known : (p : ℕ) → p < m.places → m.district p < m.districts
  pub no_empty_district : (d : ℕ) → d < m.districts → Inhabited m d
  pub road_fits : (r : ℕ) (x : Road) → m.road r ≡ Some x → RoadFits m r x
  -- no two roads have the same start and end
  pub alone : (r s : ℕ) (x y : Road) → m.road r ≡ Some x → m.road s ≡ Some y →
      x.start.0 ≡ y.start.0 → x.end.0 ≡ y.end.0 → r ≡ s
  pub departs : (p : ℕ) → p < m.places → Lists m (λ x. x.start) p (m.departures p)
  pub arrives : (p : ℕ) → p < m.places → Lists m (λ x. x.end) p (m.arrivals p)

-- The numbers of the roads that leave a place, in order; none where there is no such place.
abbrev pub leaving : MapModel → ℕ → List ℕ
leaving m u = cond (nat_lt u m.places) (m.departures u) []

-- Whether the place p is one of the district d. A place that the map does not have is of none.
abbrev pub is_in : MapModel → ℕ → ℕ → Bool
is_in m d p = cond (nat_lt p m.places) (m.district p == d) false

-- The district of a place, absent where there is no such place.
abbrev pub district_at : MapModel → ℕ → Option District
district_at m p = cond (nat_lt p m.places) (Some (record { 0 = m.district p })) None

-- The j-th road number that a place lists, absent where there is no such place or it lists no more.
abbrev pub listed_at : ℕ → (ℕ → List ℕ) → ℕ → ℕ → Option RoadId
listed_at places lists p j =
    cond (nat_lt p places) (cond (nat_lt j (length (lists p))) (Some (record { 0 = slice_index (lists p) j })) None) None
