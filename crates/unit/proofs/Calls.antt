-- What the calls on the layers make of the unit.
use Rattle.std.proofs.Common.{ℕ, Bool, length, Ok, Err, Result, refl, ap, ◌∙◌}
use Rattle.map.specs.declared.numbers.RoadId.{RoadId}
use Rattle.map.specs.Model.{MapModel}
use Rattle.entries.specs.declared.refusals.Refusal.{Refusal as LayerRefusal}
use Rattle.entries.specs.Readings.{slowed, slowing}
use Rattle.entries.specs.Tables.{holds, figure}
use Rattle.layers.specs.Closures.{Closures, Closing as LayerClosing, Opening as LayerOpening}
use Rattle.layers.specs.Slowdowns.{Slowdowns, Slowing as LayerSlowing, Clearing as LayerClearing}
use Rattle.histories.specs.Histories.{lifted}
use Rattle.histories.proofs.Leaving.{close_through, open_through, left_close, left_open, left_slow, left_clear}
use Rattle.unit.specs.declared.units.Unit.{Unit as MapUnit}
use Rattle.unit.specs.Calls.{Closing, Opening, Slowing, Clearing}

module _ {K T M G : Type 0} (thing : K → T) (leq : T → T → Bool) (plus : K → K → K) (nil blocked : K) (price : ℕ → ℕ → K) (decoded : ℕ → K)
    (base : MapModel) (road : RoadId) (before : MapUnit M G) where
  -- the unit with another map
  abbrev over : Closures (Slowdowns G) → MapUnit M G
  over m = record { map = m; table = before.table; measure = before.measure }

  -- the unit with another layer of slowdowns
  abbrev above : Slowdowns G → MapUnit M G
  above s = over (record { below = s; roads = before.map.roads })

  pub closing : (m : Closures (Slowdowns G)) (a : Result Unit LayerRefusal) → LayerClosing (slowing (figure before.map.below.roads.entries.used) base) road before.map m a →
      Closing thing leq plus nil blocked price decoded base road before (over m) (lifted a)
  closing m (Ok u) c = record {
    answer = ap lifted (c.answer ∙ close_through (slowed (figure before.map.below.roads.entries.used road.0)) (base.road road.0) (holds before.map.roads.entries.used road.0) (length before.map.roads.entries.used));
    change = c.change;
    below = c.below;
    table = refl;
    history = λ h was. left_close thing leq plus nil blocked price decoded base h before.table road before.map m was (Ok u) c;
  }
  closing m (Err e) c = record {
    answer = ap lifted (c.answer ∙ close_through (slowed (figure before.map.below.roads.entries.used road.0)) (base.road road.0) (holds before.map.roads.entries.used road.0) (length before.map.roads.entries.used));
    change = ap over c.change;
    below = c.below;
    table = refl;
    history = λ h was. left_close thing leq plus nil blocked price decoded base h before.table road before.map m was (Err e) c;
  }

  pub opening : (m : Closures (Slowdowns G)) (a : Result Unit LayerRefusal) → LayerOpening (slowing (figure before.map.below.roads.entries.used) base) road before.map m a →
      Opening thing leq plus nil blocked price decoded base road before (over m) (lifted a)
  opening m (Ok u) c = record {
    answer = ap lifted (c.answer ∙ open_through (slowed (figure before.map.below.roads.entries.used road.0)) (base.road road.0) (holds before.map.roads.entries.used road.0));
    change = c.change;
    below = c.below;
    table = refl;
    history = λ h was. left_open thing leq plus nil blocked price decoded base h before.table road before.map m was (Ok u) c;
  }
  opening m (Err e) c = record {
    answer = ap lifted (c.answer ∙ open_through (slowed (figure before.map.below.roads.entries.used road.0)) (base.road road.0) (holds before.map.roads.entries.used road.0));
    change = ap over c.change;
    below = c.below;
    table = refl;
    history = λ h was. left_open thing leq plus nil blocked price decoded base h before.table road before.map m was (Err e) c;
  }

  pub slowing_to : (f : ℕ) (s : Slowdowns G) (a : Result Unit LayerRefusal) → LayerSlowing base road f before.map.below s a →
      Slowing thing leq plus nil blocked price decoded base road f before (above s) (lifted a)
  slowing_to f s (Ok u) c = record {
    answer = ap lifted c.answer;
    change = c.change;
    closures = refl;
    below = c.below;
    table = refl;
    history = λ h was. left_slow thing leq plus nil blocked price decoded base h before.table road before.map (above s).map was f (Ok u) refl c;
  }
  slowing_to f s (Err e) c = record {
    answer = ap lifted c.answer;
    change = ap above c.change;
    closures = refl;
    below = c.below;
    table = refl;
    history = λ h was. left_slow thing leq plus nil blocked price decoded base h before.table road before.map (above s).map was f (Err e) refl c;
  }

  pub clearing : (s : Slowdowns G) (a : Result Unit LayerRefusal) → LayerClearing base road before.map.below s a →
      Clearing thing leq plus nil blocked price decoded base road before (above s) (lifted a)
  clearing s (Ok u) c = record {
    answer = ap lifted c.answer;
    change = c.change;
    closures = refl;
    below = c.below;
    table = refl;
    history = λ h was. left_clear thing leq plus nil blocked price decoded base h before.table road before.map (above s).map was (Ok u) refl c;
  }
  clearing s (Err e) c = record {
    answer = ap lifted c.answer;
    change = ap above c.change;
    closures = refl;
    below = c.below;
    table = refl;
    history = λ h was. left_clear thing leq plus nil blocked price decoded base h before.table road before.map (above s).map was (Err e) refl c;
  }
