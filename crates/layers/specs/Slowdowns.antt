-- Layers of slowdowns.
use Rattle.std.specs.Prelude.{◌≡◌, ℕ, Bool, List, length, is_some, Ok, Option, Result, MatchResult, Some, None, Err}
use Rattle.map.specs.declared.numbers.RoadId.{RoadId}
use Rattle.map.specs.declared.roads.Road.{Road}
use Rattle.map.specs.Model.{MapModel}
use Rattle.entries.specs.declared.entry.Entry.{Ghosts as EntryOf}
use Rattle.entries.specs.declared.entry.Places.{Ghosts as PlacesOf}
use Rattle.entries.specs.declared.refusals.Refusal.{Refusal}
use Rattle.entries.specs.declared.slowdown.Figure.{Figure}
use Rattle.entries.specs.Answers.{remove_answer}
use Rattle.entries.specs.Slowdowns.{slow_road, slowdown}
use Rattle.entries.specs.Tables.{figure, set_answer, Slowed, Cleared}
use Rattle.layers.specs.declared.calls.SlowdownCall.{SlowdownCall}
use Rattle.layers.specs.declared.calls.SlowdownCall.TheVariants.{Slow, Clear}
use Rattle.layers.specs.declared.layer.Layer.{Layer}
use Rattle.layers.specs.Histories.{last_on, ByHistory, many}
use Rattle.layers.specs.Layers.{on_road, Left, answer_by as layer_answer_by}
use Rattle.std.specs.Option.{option_map}
use Rattle.entries.specs.Readings.{slowed}
use Rattle.layers.specs.Rules.{Rules}

-- ---- what such a layer goes by
-- The road that a call names.
abbrev pub road_named : SlowdownCall → ℕ
road_named (Slow q f) = q.0
road_named (Clear q) = q.0

-- The figure of a call, if there was one and it was a slow.
abbrev pub figure_of : Option SlowdownCall → Option ℕ
figure_of None = None
figure_of (Some (Slow q f)) = Some f
figure_of (Some (Clear q)) = None

-- That entry, or why there is none.
abbrev pub some_entry : Result Figure Refusal → Result (Option Figure) Refusal
some_entry (Ok e) = Ok (Some e)
some_entry (Err r) = Err r

-- The entry that a call gives its road: a slow one with the figure, unless that is too long, a clear none.
abbrev pub entry_of : SlowdownCall → Result (Option Figure) Refusal
entry_of (Slow q f) = some_entry (slowdown q f)
entry_of (Clear q) = Ok None

-- A road has the figure of its entry or, by the history, that of the last call on it if that was a slow, and then takes
-- at least that long.
abbrev pub slowdown_rules : Rules Figure SlowdownCall (Option ℕ)
slowdown_rules = record { shows = option_map (λ e. e.seconds); counted = is_some; reads = slowed; named = road_named; entry_of = entry_of; leaves = figure_of }

-- ---- what its history makes of it
-- The entries of such a layer are slowdowns, and its places a list of them.
abbrev pub slow_entries : EntryOf Figure
slow_entries = record { road = slow_road; again = Ok tt }

abbrev pub slow_places : PlacesOf (List Figure) Figure
slow_places = record { items = λ places. places }

-- A layer of slowdowns over a map of the type G.
abbrev pub Slowdowns : Type 0 → Type 0
Slowdowns G = Layer G Figure (List Figure) slow_entries slow_places

-- The figure of the road r: that of its last accepted slow, if no accepted clear of it came later.
abbrev pub figure_by : List SlowdownCall → ℕ → Option ℕ
figure_by h r = figure_of (last_on road_named h r)

-- How many roads have a figure. Every road's number is below 65,536.
abbrev pub figures_by : List SlowdownCall → ℕ
figures_by h = many (λ r. is_some (figure_by h r)) 65536

-- The history leaves the layer so: just the roads to which it gives a figure have an entry, each of them one, with it.
abbrev pub LeftBy : {G : Type 0} → List SlowdownCall → Slowdowns G → Type 0
LeftBy h c = Left slow_road slowdown_rules h c.roads.entries.used

-- What a slow of a road to the figure f answers, from the road below, its own figure and how many there are: no such road
-- (11), over 60,000 (15), 64 entries and none its own (14), in this order.
abbrev pub slow_answer : (below : Option Road) (f : ℕ) (own : Option ℕ) (count : ℕ) → Result Unit Refusal
slow_answer below f own count = on_road below (set_answer f own count)

-- What a clear of a road answers: no such road (11), no entry (13), in this order.
abbrev pub clear_answer : (below : Option Road) (slow : Bool) → Result Unit Refusal
clear_answer below slow = on_road below (remove_answer slow)

-- What a call answers: the map below and the history decide it.
abbrev pub answer_by : MapModel → List SlowdownCall → SlowdownCall → Result Unit Refusal
answer_by m h call = layer_answer_by (Ok tt) slowdown_rules m h call

-- A slow of the road to the figure f on a layer over a map that means m. An accepted one gives the road that figure, and a
-- refused one changes nothing at all.
pub record Slowing {G : Type 0} (m : MapModel) (road : RoadId) (f : ℕ) (before after : Slowdowns G) (a : Result Unit Refusal) : Type 0 where
  pub answer : a ≡ slow_answer (m.road road.0) f (figure before.roads.entries.used road.0) (length before.roads.entries.used)
  pub change : MatchResult a (λ _. Slowed before.roads.entries.used after.roads.entries.used road.0 f) (λ _. after ≡ before)
  pub below : after.below ≡ before.below
  pub history : (h : List SlowdownCall) → LeftBy h before → ByHistory (answer_by m) LeftBy h (Slow road f) a after

-- A clear of the road on a layer over a map that means m. An accepted one takes the road's figure away, and a refused one
-- changes nothing at all.
pub record Clearing {G : Type 0} (m : MapModel) (road : RoadId) (before after : Slowdowns G) (a : Result Unit Refusal) : Type 0 where
  pub answer : a ≡ clear_answer (m.road road.0) (is_some (figure before.roads.entries.used road.0))
  pub change : MatchResult a (λ _. Cleared before.roads.entries.used after.roads.entries.used road.0) (λ _. after ≡ before)
  pub below : after.below ≡ before.below
  pub history : (h : List SlowdownCall) → LeftBy h before → ByHistory (answer_by m) LeftBy h (Clear road) a after
