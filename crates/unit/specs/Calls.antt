-- What the calls on a unit's layers answer and do.
use Rattle.std.specs.Prelude.{◌≡◌, ℕ, Bool, List, length, is_some, Result, MatchResult}
use Rattle.map.specs.declared.numbers.RoadId.{RoadId}
use Rattle.map.specs.Model.{MapModel}
use Rattle.entries.specs.Tables.{holds, figure, Added, Removed, Slowed, Cleared}
use Rattle.layers.specs.declared.calls.ClosureCall.TheVariants.{Close as CloseRoad, Open as OpenRoad}
use Rattle.layers.specs.declared.calls.SlowdownCall.TheVariants.{Slow as SlowRoad, Clear as ClearRoad}
use Rattle.layers.specs.Closures.{close_answer, open_answer}
use Rattle.layers.specs.Slowdowns.{slow_answer, clear_answer}
use Rattle.histories.specs.declared.calls.Call.{Call}
use Rattle.histories.specs.declared.calls.Call.TheVariants.{Close, Open, Slow, Clear}
use Rattle.histories.specs.declared.refusals.Refusal.{Refusal}
use Rattle.histories.specs.Histories.{lifted, closure_answer, slowdown_answer, LeftBy, ByHistory}
use Rattle.unit.specs.declared.units.Unit.{Unit as MapUnit}

-- In a measure of `thing`, `leq`, `plus`, `nil`, `blocked`, `price` and `decoded`, over a base map that means `base`.
module _ {K T : Type 0} (thing : K → T) (leq : T → T → Bool) (plus : K → K → K) (nil blocked : K) (price : ℕ → ℕ → K) (decoded : ℕ → K) (base : MapModel) where
  -- A close of the road. An accepted one puts the road on the layer of closures and changes nothing else, and a refused
  -- one changes nothing at all.
  pub record Closing {M G : Type 0} (road : RoadId) (before after : MapUnit M G) (a : Result Unit Refusal) : Type 0 where
    pub answer : a ≡ lifted (close_answer (base.road road.0) (holds before.map.roads.entries.used road.0) (length before.map.roads.entries.used))
    pub change : MatchResult a (λ _. Added before.map.roads.entries.used after.map.roads.entries.used road.0) (λ _. after ≡ before)
    pub below : after.map.below ≡ before.map.below
    pub table : after.table ≡ before.table
    pub history : (h : List Call) → LeftBy thing leq plus nil blocked price decoded base h before.map before.table →
        ByHistory thing leq plus nil blocked price decoded base h (Close road) (closure_answer base h (CloseRoad road)) a after.map after.table

  -- An open of the road. An accepted one takes the road off the layer of closures and changes nothing else, and a refused
  -- one changes nothing at all.
  pub record Opening {M G : Type 0} (road : RoadId) (before after : MapUnit M G) (a : Result Unit Refusal) : Type 0 where
    pub answer : a ≡ lifted (open_answer (base.road road.0) (holds before.map.roads.entries.used road.0))
    pub change : MatchResult a (λ _. Removed before.map.roads.entries.used after.map.roads.entries.used road.0) (λ _. after ≡ before)
    pub below : after.map.below ≡ before.map.below
    pub table : after.table ≡ before.table
    pub history : (h : List Call) → LeftBy thing leq plus nil blocked price decoded base h before.map before.table →
        ByHistory thing leq plus nil blocked price decoded base h (Open road) (closure_answer base h (OpenRoad road)) a after.map after.table

  -- A slow of the road to the figure f. An accepted one gives the road that figure on the layer of slowdowns and changes
  -- nothing else, and a refused one changes nothing at all.
  pub record Slowing {M G : Type 0} (road : RoadId) (f : ℕ) (before after : MapUnit M G) (a : Result Unit Refusal) : Type 0 where
    pub answer : a ≡ lifted (slow_answer (base.road road.0) f (figure before.map.below.roads.entries.used road.0) (length before.map.below.roads.entries.used))
    pub change : MatchResult a (λ _. Slowed before.map.below.roads.entries.used after.map.below.roads.entries.used road.0 f) (λ _. after ≡ before)
    pub closures : after.map.roads ≡ before.map.roads
    pub below : after.map.below.below ≡ before.map.below.below
    pub table : after.table ≡ before.table
    pub history : (h : List Call) → LeftBy thing leq plus nil blocked price decoded base h before.map before.table →
        ByHistory thing leq plus nil blocked price decoded base h (Slow road f) (slowdown_answer base h (SlowRoad road f)) a after.map after.table

  -- A clear of the road. An accepted one takes the road's figure off the layer of slowdowns and changes nothing else, and
  -- a refused one changes nothing at all.
  pub record Clearing {M G : Type 0} (road : RoadId) (before after : MapUnit M G) (a : Result Unit Refusal) : Type 0 where
    pub answer : a ≡ lifted (clear_answer (base.road road.0) (is_some (figure before.map.below.roads.entries.used road.0)))
    pub change : MatchResult a (λ _. Cleared before.map.below.roads.entries.used after.map.below.roads.entries.used road.0) (λ _. after ≡ before)
    pub closures : after.map.roads ≡ before.map.roads
    pub below : after.map.below.below ≡ before.map.below.below
    pub table : after.table ≡ before.table
    pub history : (h : List Call) → LeftBy thing leq plus nil blocked price decoded base h before.map before.table →
        ByHistory thing leq plus nil blocked price decoded base h (Clear road) (slowdown_answer base h (ClearRoad road)) a after.map after.table
