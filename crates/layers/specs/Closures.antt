-- Layers of closures.
use Rattle.std.specs.Prelude.{◌≡◌, ℕ, Bool, List, length, Err, Option, Result, MatchResult, true, false, is_some, Some, None, Ok}
use Rattle.map.specs.declared.numbers.RoadId.{RoadId}
use Rattle.map.specs.declared.roads.Road.{Road}
use Rattle.map.specs.Model.{MapModel}
use Rattle.entries.specs.declared.entry.Entry.{Ghosts as EntryOf}
use Rattle.entries.specs.declared.entry.Places.{Ghosts as PlacesOf}
use Rattle.entries.specs.declared.refusals.Refusal.{Refusal}
use Rattle.entries.specs.declared.refusals.Refusal.TheVariants.{AlreadyClosed}
use Rattle.entries.specs.Answers.{remove_answer}
use Rattle.entries.specs.Entries.{closed_road}
use Rattle.entries.specs.Tables.{holds, add_answer, Added, Removed}
use Rattle.layers.specs.declared.calls.ClosureCall.{ClosureCall}
use Rattle.layers.specs.declared.calls.ClosureCall.TheVariants.{Close, Open}
use Rattle.layers.specs.declared.layer.Layer.{Layer}
use Rattle.layers.specs.Histories.{last_on, ByHistory, many}
use Rattle.layers.specs.Layers.{on_road, Left, answer_by as layer_answer_by}
use Rattle.entries.specs.Readings.{shut}
use Rattle.layers.specs.Rules.{Rules}

-- ---- what such a layer goes by
-- The road that a call names.
abbrev pub road_named : ClosureCall → ℕ
road_named (Close q) = q.0
road_named (Open q) = q.0

-- Whether a call, if there was one, was a close.
abbrev pub is_close : Option ClosureCall → Bool
is_close None = false
is_close (Some (Close q)) = true
is_close (Some (Open q)) = false

-- The entry that a call gives its road: a close itself, an open none.
abbrev pub entry_of : ClosureCall → Result (Option RoadId) Refusal
entry_of (Close q) = Ok (Some q)
entry_of (Open q) = Ok None

-- A road is closed if it has an entry or, by the history, if the last call on it was a close, and then reads as closed.
abbrev pub closure_rules : Rules RoadId ClosureCall Bool
closure_rules = record { shows = is_some; counted = λ closed. closed; reads = shut; named = road_named; entry_of = entry_of; leaves = is_close }

-- ---- what its history makes of it
-- The entries of such a layer are roads, and its places a list of them.
abbrev pub closed_entries : EntryOf RoadId
closed_entries = record { road = closed_road; again = Err AlreadyClosed }

abbrev pub closed_places : PlacesOf (List RoadId) RoadId
closed_places = record { items = λ places. places }

-- A layer of closures over a map of the type G.
abbrev pub Closures : Type 0 → Type 0
Closures G = Layer G RoadId (List RoadId) closed_entries closed_places

-- Whether the road r is closed: the last accepted close or open of it was a close.
abbrev pub closed_by : List ClosureCall → ℕ → Bool
closed_by h r = is_close (last_on road_named h r)

-- How many roads are closed. Every road's number is below 65,536.
abbrev pub closures_by : List ClosureCall → ℕ
closures_by h = many (closed_by h) 65536

-- The history leaves the layer so: just the roads that it closes have an entry, each of them one.
abbrev pub LeftBy : {G : Type 0} → List ClosureCall → Closures G → Type 0
LeftBy h c = Left closed_road closure_rules h c.roads.entries.used

-- What a close of a road answers, from the road below, whether it has an entry and how many there are: no such road
-- (11), already on the layer (12), 64 on it (14), in this order.
abbrev pub close_answer : (below : Option Road) (closed : Bool) (count : ℕ) → Result Unit Refusal
close_answer below closed count = on_road below (add_answer closed count)

-- What an open of a road answers: no such road (11), no entry (13), in this order.
abbrev pub open_answer : (below : Option Road) (closed : Bool) → Result Unit Refusal
open_answer below closed = on_road below (remove_answer closed)

-- What a call answers: the map below and the history decide it.
abbrev pub answer_by : MapModel → List ClosureCall → ClosureCall → Result Unit Refusal
answer_by m h call = layer_answer_by (Err AlreadyClosed) closure_rules m h call

-- A close of the road on a layer over a map that means m. An accepted one puts the road on the layer, and a refused one
-- changes nothing at all.
pub record Closing {G : Type 0} (m : MapModel) (road : RoadId) (before after : Closures G) (a : Result Unit Refusal) : Type 0 where
  pub answer : a ≡ close_answer (m.road road.0) (holds before.roads.entries.used road.0) (length before.roads.entries.used)
  pub change : MatchResult a (λ _. Added before.roads.entries.used after.roads.entries.used road.0) (λ _. after ≡ before)
  pub below : after.below ≡ before.below
  pub history : (h : List ClosureCall) → LeftBy h before → ByHistory (answer_by m) LeftBy h (Close road) a after

-- An open of the road on a layer over a map that means m. An accepted one takes the road off the layer, and a refused one
-- changes nothing at all.
pub record Opening {G : Type 0} (m : MapModel) (road : RoadId) (before after : Closures G) (a : Result Unit Refusal) : Type 0 where
  pub answer : a ≡ open_answer (m.road road.0) (holds before.roads.entries.used road.0)
  pub change : MatchResult a (λ _. Removed before.roads.entries.used after.roads.entries.used road.0) (λ _. after ≡ before)
  pub below : after.below ≡ before.below
  pub history : (h : List ClosureCall) → LeftBy h before → ByHistory (answer_by m) LeftBy h (Open road) a after
