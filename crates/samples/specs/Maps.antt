-- The maps of the samples, given by the districts of their places and by their roads.
use Rattle.std.specs.Prelude.{ℕ, suc, max, true, false, List, [], ◌∷◌, map, length, Some, None, ◌==◌, slice_index, slice_index_or}
use Rattle.fringe.specs.declared.place.Place.{Place}
use Rattle.map.specs.declared.roads.Mark.TheVariants.{Open}
use Rattle.map.specs.declared.roads.Road.{Road}
use Rattle.map.specs.Model.{MapModel, WellFormed}
use Rattle.map.specs.Grids.{grid_model}

-- An open road from one place to another.
abbrev pub road : (start end seconds steepness : ℕ) → Road
road start end seconds steepness = record { start = record { 0 = start }; end = record { 0 = end }; seconds = seconds; steepness = steepness; mark = Open }

-- A road whose steepness in per mille is as great as its seconds.
abbrev pub plain : (start end seconds : ℕ) → Road
plain start end seconds = road start end seconds seconds

-- The numbers of the roads that touch the place p with the end that `end_of` picks, in rising order. The first road of the
-- list has the number r.
abbrev pub touching : (Road → Place) → ℕ → ℕ → List Road → List ℕ
touching end_of p r [] = []
touching end_of p r (x ∷ xs) = elim ((end_of x).0 == p) [ true ↦ r ∷ touching end_of p (suc r) xs | false ↦ touching end_of p (suc r) xs ]

-- How many districts there are: one more than the greatest number of one.
abbrev pub district_count : List ℕ → ℕ
district_count [] = 0
district_count (d ∷ ds) = max (suc d) (district_count ds)

-- What such a map is made from: the district of each place, and the roads, both numbered from 0.
pub record Plan : Type 0 where
  pub districts : List ℕ
  pub roads : List Road

-- The map of a plan. A place lists its roads in the order of their numbers.
abbrev pub map_of : Plan → MapModel
map_of plan = record {
  places = length plan.districts;
  districts = district_count plan.districts;
  roads = length plan.roads;
  district = λ p. slice_index plan.districts p;
  road = λ r. slice_index_or (map Some plan.roads) r None;
  departures = λ p. touching (λ x. x.start) p 0 plan.roads;
  arrivals = λ p. touching (λ x. x.end) p 0 plan.roads;
}

-- A mine of six places in three districts.
abbrev pub mine : Plan
mine = record { districts = 0 ∷ 0 ∷ 1 ∷ 1 ∷ 1 ∷ 2 ∷ []; roads = road 0 1 10 50 ∷ road 0 3 45 10 ∷ road 0 5 9 20 ∷ road 1 0 10 50 ∷ road 1 2 20 30 ∷ road 2 3 5 80 ∷ road 3 4 8 10 ∷ road 5 0 9 20 ∷ [] }

-- Two roads into one place, and none out of it.
abbrev pub funnel : Plan
funnel = record { districts = 0 ∷ 1 ∷ 2 ∷ []; roads = plain 1 0 6 ∷ plain 2 0 8 ∷ [] }

-- A road and a detour of the same cost.
abbrev pub detour : Plan
detour = record { districts = 0 ∷ 1 ∷ 1 ∷ []; roads = plain 0 1 1 ∷ plain 2 0 1 ∷ plain 2 1 2 ∷ [] }

-- A road and a detour that is milder, before a road as steep as the first.
abbrev pub slope : Plan
slope = record { districts = 0 ∷ 1 ∷ 0 ∷ 2 ∷ 2 ∷ []; roads = plain 0 2 2 ∷ plain 1 0 2 ∷ plain 1 4 1 ∷ plain 3 2 1 ∷ plain 4 0 1 ∷ [] }

-- A chain of seven places, and a place beside it from which a road joins the last of the chain.
abbrev pub chain : Plan
chain = record { districts = 0 ∷ 1 ∷ 1 ∷ 1 ∷ 2 ∷ 3 ∷ 3 ∷ 3 ∷ 4 ∷ []; roads = plain 0 1 1 ∷ plain 1 2 1 ∷ plain 2 3 1 ∷ plain 3 4 5 ∷ plain 4 5 15 ∷ plain 5 6 1 ∷ plain 7 6 10 ∷ plain 7 8 1 ∷ [] }

-- A ring of four places, each a district.
abbrev pub ring : Plan
ring = record { districts = 0 ∷ 1 ∷ 2 ∷ 3 ∷ []; roads = plain 0 1 1 ∷ plain 1 2 1 ∷ plain 2 3 1 ∷ plain 3 0 1 ∷ [] }

-- Two roads in a row through three districts, against the order of their numbers.
abbrev pub passage : Plan
passage = record { districts = 0 ∷ 0 ∷ 2 ∷ 1 ∷ []; roads = plain 3 0 1 ∷ plain 0 2 4 ∷ [] }

-- A grid of two rows and three columns, in tiles of side 2, with roads of 7 seconds.
abbrev pub grid : MapModel
grid = grid_model (record { rows = 2; columns = 3; side = 2; seconds = 7; steepness = 0 })

-- The plans of the samples.
abbrev pub plans : List Plan
plans = mine ∷ funnel ∷ detour ∷ slope ∷ chain ∷ ring ∷ passage ∷ []

-- Each of these maps keeps the rules of maps.
abbrev pub AllFit : List MapModel → Type 0
AllFit [] = Unit {0}
AllFit (m ∷ ms) = WellFormed m × AllFit ms

-- The maps of the samples.
abbrev pub maps : List MapModel
maps = grid ∷ map map_of plans
