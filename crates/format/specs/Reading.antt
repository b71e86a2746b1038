-- What a byte string says: that it is no cartridge, and why, or the map that it holds.
use Rattle.std.specs.Prelude.{ℕ, zero, suc, ◌+◌, ◌*◌, Bool, true, cond, not, ◌&&◌, ◌||◌, List, [], ◌∷◌, map, length, is_some, Some, None, Ok, Err, Option, Result, ◌==◌, nat_eq, nat_le, nat_lt}
use Rattle.std.specs.Option.{option_map}
use Rattle.map.specs.declared.roads.Road.{Road}
use Rattle.map.specs.declared.roads.Mark.TheVariants.{Open}
use Rattle.map.specs.Model.{MapModel}
use Rattle.format.specs.declared.Refusal.{Refusal}
use Rattle.format.specs.declared.Refusal.TheVariants.{Cut, WrongTag, WrongLength, WrongCount, NoSuchDistrict, EmptyDistrict, WrongRoad, WrongArrival}
use Rattle.format.specs.Bytes.{byte, number, places, districts, roads, districts_at, roads_at, arrivals_at}
use Rattle.format.specs.Picks.{picked, first}

-- A judgement is a refusal or nothing. Of two, the first that refuses counts.
abbrev pub and_then : Option Refusal → Option Refusal → Option Refusal
and_then (Some r) next = Some r
and_then None next = next

-- The refusal r, if the test fails.
abbrev pub unless : Bool → Refusal → Option Refusal
unless passes r = cond passes None (Some r)

-- What a check answers by a judgement: a value, if nothing is wrong.
abbrev pub verdict : {A : Type 0} → Option Refusal → A → Result A Refusal
verdict None x = Ok x
verdict (Some r) x = Err r

-- The field at an offset has this tag and this length, and a body of that length.
abbrev pub field : List ℕ → ℕ → ℕ → ℕ → Option Refusal
field b offset tag size =
    and_then (unless (nat_le (offset + 3) (length b)) (Cut offset))
    (and_then (unless (byte b offset == tag) (WrongTag offset))
    (and_then (unless (number b (offset + 1) == size) (WrongLength offset))
    (unless (nat_le (offset + 3 + size) (length b)) (Cut offset))))

-- From an offset on stand fields of these tags and lengths, one behind the other, and no byte after them.
abbrev pub walked : List ℕ → ℕ → List (ℕ × ℕ) → Option Refusal
walked b offset [] = unless (nat_le (length b) offset) (WrongTag offset)
walked b offset (f ∷ rest) = and_then (field b offset f.0 f.1) (walked b (offset + 3 + f.1) rest)

-- The five fields of a cartridge: counts, districts, roads, arrivals and the end mark.
unfoldable pub fields : List ℕ → Option Refusal
fields b = walked b 0 ((1, 5) ∷ (2, places b) ∷ (3, 8 * roads b) ∷ (4, 2 * roads b) ∷ (15, 0) ∷ [])

-- 1 to 1,024 places, 1 to 64 districts, at most 4,096 roads.
abbrev pub counts : List ℕ → Option Refusal
counts b = unless (nat_le 1 (places b) && nat_le (places b) 1024 && nat_le 1 (districts b) && nat_le (districts b) 64 && nat_le (roads b) 4096) (WrongCount 0)

-- The district of the place p.
abbrev pub district_of : List ℕ → ℕ → ℕ
district_of b p = byte b (districts_at + p)

-- Each place's district is one of the districts.
abbrev pub known_districts : List ℕ → Option Refusal
known_districts b = option_map (λ p. NoSuchDistrict (record { 0 = p })) (first (λ p. not (nat_lt (district_of b p) (districts b))) 0 (places b))

-- The district d has a place.
abbrev pub has_place : List ℕ → ℕ → Bool
has_place b d = is_some (first (λ p. nat_eq (district_of b p) d) 0 (places b))

-- No district is empty.
abbrev pub inhabited_districts : List ℕ → Option Refusal
inhabited_districts b = option_map (λ d. EmptyDistrict (record { 0 = d })) (first (λ d. not (has_place b d)) 0 (districts b))

-- The record of the road r.
abbrev pub road_of : List ℕ → ℕ → Road
road_of b r = record {
  start = record { 0 = number b (roads_at b + 8 * r) };
  end = record { 0 = number b (roads_at b + 8 * r + 2) };
  seconds = number b (roads_at b + 8 * r + 4);
  steepness = number b (roads_at b + 8 * r + 6);
  mark = Open;
}

-- A road within the limits of a map of n places.
abbrev pub within_limits : ℕ → Road → Bool
within_limits n x = nat_lt x.start.0 n && nat_lt x.end.0 n && not (x.start.0 == x.end.0) && nat_le x.seconds 60000 && nat_le x.steepness 1000

-- The pair (a, b) is before (c, d): by the first numbers, and where they are equal by the second.
abbrev pub before : ℕ → ℕ → ℕ → ℕ → Bool
before a b c d = nat_lt a c || (a == c && nat_lt b d)

-- A road rises above the one before it, if there is one, by start and then by end.
abbrev pub rises_by_start : Option Road → Road → Bool
rises_by_start None x = true
rises_by_start (Some y) x = before y.start.0 y.end.0 x.start.0 x.end.0

-- The same by end and then by start.
abbrev pub rises_by_end : Option Road → Road → Bool
rises_by_end None x = true
rises_by_end (Some y) x = before y.end.0 y.start.0 x.end.0 x.start.0

-- The entry before the i-th of a list of roads.
abbrev pub previous : (ℕ → Road) → ℕ → Option Road
previous at zero = None
previous at (suc i) = Some (at i)

-- The roads keep the rules of maps and rise strictly by start, then end.
abbrev pub right_road : List ℕ → ℕ → Bool
right_road b r = within_limits (places b) (road_of b r) && rises_by_start (previous (road_of b) r) (road_of b r)

abbrev pub right_roads : List ℕ → Option Refusal
right_roads b = option_map (λ r. WrongRoad (record { 0 = r })) (first (λ r. not (right_road b r)) 0 (roads b))

-- The number of the i-th arrival, and its road.
abbrev pub arrival_of : List ℕ → ℕ → ℕ
arrival_of b i = number b (arrivals_at b + 2 * i)

abbrev pub arriving : List ℕ → ℕ → Road
arriving b i = road_of b (arrival_of b i)

-- The arrivals are numbers of roads and rise strictly by the roads' ends, then starts.
abbrev pub right_arrival : List ℕ → ℕ → Bool
right_arrival b i = nat_lt (arrival_of b i) (roads b) && rises_by_end (previous (arriving b) i) (arriving b i)

abbrev pub right_arrivals : List ℕ → Option Refusal
right_arrivals b = option_map WrongArrival (first (λ i. not (right_arrival b i)) 0 (roads b))

-- The contents are judged once all fields have been walked, each over its whole field.
abbrev pub contents : List ℕ → Option Refusal
contents b = and_then (counts b) (and_then (known_districts b) (and_then (inhabited_districts b) (and_then (right_roads b) (right_arrivals b))))

-- What is wrong with a byte string: nothing, if it is a cartridge.
unfoldable pub judged : List ℕ → Option Refusal
judged b = and_then (fields b) (contents b)

-- Whether a byte string is a cartridge.
abbrev pub accepts : List ℕ → Bool
accepts b = not (is_some (judged b))

-- The map in a cartridge. All its roads are open; departures stand in the order of road numbers, arrivals in that of
-- their field.
abbrev pub map_in : List ℕ → MapModel
map_in b = record {
  places = places b;
  districts = districts b;
  roads = roads b;
  district = district_of b;
  road = λ r. cond (nat_lt r (roads b)) (Some (road_of b r)) None;
  departures = λ p. picked (λ r. nat_eq (road_of b r).start.0 p) 0 (roads b);
  arrivals = λ p. map (arrival_of b) (picked (λ i. nat_eq (arriving b i).end.0 p) 0 (roads b));
}

-- What reading a byte string gives.
abbrev pub read : List ℕ → Result MapModel Refusal
read b = verdict (judged b) (map_in b)
