-- How calls on the layers leave a unit.
use Rattle.std.proofs.Common.{◌≡◌, ℕ, Bool, List, Some, None, Ok, Err, Option, Result, sym, refl, ap, ◌∙◌, subst}
use Rattle.std.specs.Option.{option_map}
use Rattle.map.specs.declared.numbers.RoadId.{RoadId}
use Rattle.map.specs.declared.roads.Road.{Road}
use Rattle.map.specs.Model.{MapModel}
use Rattle.entries.specs.declared.refusals.Refusal.{Refusal as LayerRefusal}
use Rattle.entries.specs.Readings.{slowed, slowing}
use Rattle.entries.specs.Tables.{figure}
use Rattle.layers.specs.declared.calls.ClosureCall.TheVariants.{Close as CloseRoad, Open as OpenRoad}
use Rattle.layers.specs.declared.calls.SlowdownCall.TheVariants.{Slow as SlowRoad, Clear as ClearRoad}
use Rattle.layers.specs.Closures.{Closures, closed_by, closures_by, close_answer, open_answer, Closing, Opening, LeftBy as ClosuresLeftBy}
use Rattle.layers.specs.Slowdowns.{Slowdowns, Slowing, Clearing, LeftBy as SlowdownsLeftBy}
use Rattle.table.specs.declared.tables.Table.{Table}
use Rattle.histories.specs.declared.calls.Call.{Call}
use Rattle.histories.specs.declared.calls.Call.TheVariants.{Close, Open, Slow, Clear}
use Rattle.histories.specs.Histories.{closure_calls, slowdown_calls, lifted, closure_answer, slowdown_answer, LeftBy, ByHistory}

-- a road is there exactly where the road that is read in its place is
pub close_through : (f : Road → Road) (o : Option Road) (closed : Bool) (n : ℕ) → close_answer (option_map f o) closed n ≡ close_answer o closed n
close_through f None closed n = refl
close_through f (Some x) closed n = refl

pub open_through : (f : Road → Road) (o : Option Road) (closed : Bool) → open_answer (option_map f o) closed ≡ open_answer o closed
open_through f None closed = refl
open_through f (Some x) closed = refl

module _ {K T G : Type 0} (thing : K → T) (leq : T → T → Bool) (plus : K → K → K) (nil blocked : K) (price : ℕ → ℕ → K) (decoded : ℕ → K)
    (base : MapModel) (h : List Call) (table : Table) (road : RoadId) (before after : Closures (Slowdowns G))
    (was : LeftBy thing leq plus nil blocked price decoded base h before table) where
  -- the layer of slowdowns is as it was where it is the same
  same_slowdowns : after.below ≡ before.below → SlowdownsLeftBy (slowdown_calls h) after.below
  same_slowdowns e = subst (SlowdownsLeftBy (slowdown_calls h)) (sym e) was.slowdowns

  -- and so the layer of closures, which its roads alone decide
  same_closures : after.roads ≡ before.roads → ClosuresLeftBy (closure_calls h) after
  same_closures e = record {
    reads = rw e was.closures.reads;
    count = rw e was.closures.count;
  }

  closed_answered : {a : Result Unit LayerRefusal} → a ≡ close_answer (option_map (slowed (figure before.below.roads.entries.used road.0)) (base.road road.0)) (closed_by (closure_calls h) road.0) (closures_by (closure_calls h)) →
      lifted a ≡ closure_answer base h (CloseRoad road)
  closed_answered e = ap lifted (e ∙ close_through (slowed (figure before.below.roads.entries.used road.0)) (base.road road.0) (closed_by (closure_calls h) road.0) (closures_by (closure_calls h)))

  opened_answered : {a : Result Unit LayerRefusal} → a ≡ open_answer (option_map (slowed (figure before.below.roads.entries.used road.0)) (base.road road.0)) (closed_by (closure_calls h) road.0) →
      lifted a ≡ closure_answer base h (OpenRoad road)
  opened_answered e = ap lifted (e ∙ open_through (slowed (figure before.below.roads.entries.used road.0)) (base.road road.0) (closed_by (closure_calls h) road.0))

  pub left_close : (a : Result Unit LayerRefusal) → Closing (slowing (figure before.below.roads.entries.used) base) road before after a →
      ByHistory thing leq plus nil blocked price decoded base h (Close road) (closure_answer base h (CloseRoad road)) (lifted a) after table
  left_close (Ok u) c = let b = c.history (closure_calls h) was.closures in record {
    answered = closed_answered b.answered;
    left = record { closures = b.left; slowdowns = same_slowdowns c.below; prepared = was.prepared; rows = was.rows };
  }
  left_close (Err e) c = let b = c.history (closure_calls h) was.closures in record {
    answered = closed_answered b.answered;
    left = record { closures = b.left; slowdowns = same_slowdowns c.below; prepared = was.prepared; rows = was.rows };
  }

  pub left_open : (a : Result Unit LayerRefusal) → Opening (slowing (figure before.below.roads.entries.used) base) road before after a →
      ByHistory thing leq plus nil blocked price decoded base h (Open road) (closure_answer base h (OpenRoad road)) (lifted a) after table
  left_open (Ok u) c = let b = c.history (closure_calls h) was.closures in record {
    answered = opened_answered b.answered;
    left = record { closures = b.left; slowdowns = same_slowdowns c.below; prepared = was.prepared; rows = was.rows };
  }
  left_open (Err e) c = let b = c.history (closure_calls h) was.closures in record {
    answered = opened_answered b.answered;
    left = record { closures = b.left; slowdowns = same_slowdowns c.below; prepared = was.prepared; rows = was.rows };
  }

  pub left_slow : (f : ℕ) (a : Result Unit LayerRefusal) → after.roads ≡ before.roads → Slowing base road f before.below after.below a →
      ByHistory thing leq plus nil blocked price decoded base h (Slow road f) (slowdown_answer base h (SlowRoad road f)) (lifted a) after table
  left_slow f (Ok u) same c = let b = c.history (slowdown_calls h) was.slowdowns in record {
    answered = ap lifted b.answered;
    left = record { closures = same_closures same; slowdowns = b.left; prepared = was.prepared; rows = was.rows };
  }
  left_slow f (Err e) same c = let b = c.history (slowdown_calls h) was.slowdowns in record {
    answered = ap lifted b.answered;
    left = record { closures = same_closures same; slowdowns = b.left; prepared = was.prepared; rows = was.rows };
  }

  pub left_clear : (a : Result Unit LayerRefusal) → after.roads ≡ before.roads → Clearing base road before.below after.below a →
      ByHistory thing leq plus nil blocked price decoded base h (Clear road) (slowdown_answer base h (ClearRoad road)) (lifted a) after table
  left_clear (Ok u) same c = let b = c.history (slowdown_calls h) was.slowdowns in record {
    answered = ap lifted b.answered;
    left = record { closures = same_closures same; slowdowns = b.left; prepared = was.prepared; rows = was.rows };
  }
  left_clear (Err e) same c = let b = c.history (slowdown_calls h) was.slowdowns in record {
    answered = ap lifted b.answered;
    left = record { closures = same_closures same; slowdowns = b.left; prepared = was.prepared; rows = was.rows };
  }
