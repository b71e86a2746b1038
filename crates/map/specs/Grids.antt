-- A grid of pillars as a map. Rows are counted from the north and columns from the west, both from 0. From each place
-- roads lead to the places next to it, and square tiles of places are the districts.
use Rattle.std.specs.Prelude.{ℕ, ◌+◌, ◌-◌, ◌*◌, ◌/◌, ◌%◌, ◌≤◌, Bool, cond, List, [], ◌∷◌, map, Some, None, Option, ◌==◌, nat_lt}
use Rattle.std.specs.Option.{option_map}
use Rattle.map.specs.declared.directions.Direction.{Direction}
use Rattle.map.specs.declared.directions.Direction.TheVariants.{North, West, East, South}
use Rattle.map.specs.declared.roads.Mark.TheVariants.{Open}
use Rattle.map.specs.declared.roads.Road.{Road}
use Rattle.map.specs.Model.{MapModel}

-- What a grid is made from: its rows and columns, the side of its tiles, and the seconds and steepness of every road.
pub record Figures : Type 0 where
  pub rows : ℕ
  pub columns : ℕ
  pub side : ℕ
  pub seconds : ℕ
  pub steepness : ℕ

-- The place in a row and a column.
abbrev pub place_at : Figures → ℕ → ℕ → ℕ
place_at f row column = row * f.columns + column

-- The row of a place.
abbrev pub row_of : Figures → ℕ → ℕ
row_of f p = p / f.columns

-- The column of a place.
abbrev pub column_of : Figures → ℕ → ℕ
column_of f p = p % f.columns

-- How many places there are.
abbrev pub place_count : Figures → ℕ
place_count f = f.rows * f.columns

-- How many tiles of a side cover a length. A partly filled one counts.
abbrev pub tiles : ℕ → ℕ → ℕ
tiles length side = (length + side - 1) / side

-- The district of a place is its tile. Tiles are numbered as places are, row by row from the north-west.
abbrev pub district_of : Figures → ℕ → ℕ
district_of f p = row_of f p / f.side * tiles f.columns f.side + column_of f p / f.side

-- How many tiles there are.
abbrev pub district_count : Figures → ℕ
district_count f = tiles f.columns f.side * tiles f.rows f.side

-- The figures that a grid may have: 1 to 32 rows, columns and places along a tile, roads of at most 60,000 seconds and
-- 1,000 per mille, and at most 64 tiles.
pub record InRange (f : Figures) : Type 0 where
  pub some_rows : 1 ≤ f.rows
  pub few_rows : f.rows ≤ 32
  pub some_columns : 1 ≤ f.columns
  pub few_columns : f.columns ≤ 32
  pub some_side : 1 ≤ f.side
  pub few_side : f.side ≤ 32
  pub short : f.seconds ≤ 60000
  pub mild : f.steepness ≤ 1000
  pub few_tiles : district_count f ≤ 64

-- The place, if the test passes.
abbrev pub when : Bool → ℕ → Option ℕ
when test p = cond test (Some p) None

-- The place next to a place in a direction, absent where that leaves the grid.
abbrev pub neighbour : Figures → ℕ → Direction → Option ℕ
neighbour f p North = when (nat_lt 0 (row_of f p)) (place_at f (row_of f p - 1) (column_of f p))
neighbour f p West = when (nat_lt 0 (column_of f p)) (place_at f (row_of f p) (column_of f p - 1))
neighbour f p East = when (nat_lt (column_of f p + 1) f.columns) (place_at f (row_of f p) (column_of f p + 1))
neighbour f p South = when (nat_lt (row_of f p + 1) f.rows) (place_at f (row_of f p + 1) (column_of f p))

-- North, west, east and south are numbered 0 to 3.
abbrev pub direction_number : Direction → ℕ
direction_number North = 0
direction_number West = 1
direction_number East = 2
direction_number South = 3

-- The directions in the order of their numbers.
abbrev pub directions : List Direction
directions = North ∷ West ∷ East ∷ South ∷ []

-- The direction that a number below 4 stands for.
abbrev pub direction_of : ℕ → Direction
direction_of d = cond (d == 0) North (cond (d == 1) West (cond (d == 2) East South))

-- The way back.
abbrev pub opposite : Direction → Direction
opposite North = South
opposite West = East
opposite East = West
opposite South = North

-- The road from a place in a direction has the number 4 × place + the direction's number.
abbrev pub road_number : ℕ → Direction → ℕ
road_number p d = 4 * p + direction_number d

-- All roads are open and alike.
abbrev pub road_between : Figures → ℕ → ℕ → Road
road_between f p q = record {
  start = record { 0 = p };
  end = record { 0 = q };
  seconds = f.seconds;
  steepness = f.steepness;
  mark = Open;
}

-- The road of a number. There is none from 4 × places on, nor where it would leave the grid.
abbrev pub grid_road : Figures → ℕ → Option Road
grid_road f r = cond (nat_lt r (4 * place_count f)) (option_map (road_between f (r / 4)) (neighbour f (r / 4) (direction_of (r % 4)))) None

-- The number of the road that leaves a place in a direction.
abbrev pub leaving : Figures → ℕ → Direction → Option ℕ
leaving f p d = option_map (λ q. road_number p d) (neighbour f p d)

-- The number of the road that comes to a place from the neighbour in a direction.
abbrev pub arriving : Figures → ℕ → Direction → Option ℕ
arriving f p d = option_map (λ q. road_number q (opposite d)) (neighbour f p d)

-- What the options hold, in their order.
abbrev pub present : List (Option ℕ) → List ℕ
present [] = []
present (None ∷ os) = present os
present (Some x ∷ os) = x ∷ present os

-- The map that a grid is. A place lists its roads in the order of the directions that they lead to or come from.
abbrev pub grid_model : Figures → MapModel
grid_model f = record {
  places = place_count f;
  districts = district_count f;
  roads = 4 * place_count f;
  district = district_of f;
  road = grid_road f;
  departures = λ p. present (map (leaving f p) directions);
  arrivals = λ p. present (map (arriving f p) directions);
}
