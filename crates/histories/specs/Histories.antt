-- What a unit's history makes of it. A history is the list of the calls that the unit accepted since it was new, the
-- latest first. A refused call leaves no trace.
use Rattle.std.specs.Prelude.{◌≡◌, ℕ, Bool, true, false, ◌&&◌, ◌||◌, List, [], ◌∷◌, Ok, Err, Option, Result, ◌==◌}
use Rattle.map.specs.Model.{MapModel}
use Rattle.entries.specs.declared.refusals.Refusal.{Refusal as LayerRefusal}
use Rattle.entries.specs.Readings.{closing, slowing}
use Rattle.layers.specs.declared.calls.ClosureCall.{ClosureCall}
use Rattle.layers.specs.declared.calls.ClosureCall.TheVariants.{Close as CloseRoad, Open as OpenRoad}
use Rattle.layers.specs.declared.calls.SlowdownCall.{SlowdownCall}
use Rattle.layers.specs.declared.calls.SlowdownCall.TheVariants.{Slow as SlowRoad, Clear as ClearRoad}
use Rattle.layers.specs.Closures.{Closures, closed_by, closures_by, LeftBy as ClosuresLeftBy, answer_by as closures_answer_by}
use Rattle.layers.specs.Slowdowns.{Slowdowns, figure_by, figures_by, LeftBy as SlowdownsLeftBy, answer_by as slowdowns_answer_by}
use Rattle.routes.specs.Prepared.{RowHolds}
use Rattle.table.specs.declared.tables.Table.{Table}
use Rattle.table.specs.Entries.{is_prepared}
use Rattle.table.specs.Views.{stored}
use Rattle.histories.specs.declared.calls.Call.{Call}
use Rattle.histories.specs.declared.calls.Call.TheVariants.{Prepare, Close, Open, Slow, Clear, Question}
use Rattle.histories.specs.declared.refusals.Refusal.{Refusal}
use Rattle.histories.specs.declared.refusals.Refusal.TheVariants.{Layer}

-- ---- what the calls say
-- Those calls of the history that change the layer of closures, in order.
abbrev pub closure_calls : List Call → List ClosureCall
closure_calls [] = []
closure_calls (Prepare d ∷ h) = closure_calls h
closure_calls (Close q ∷ h) = CloseRoad q ∷ closure_calls h
closure_calls (Open q ∷ h) = OpenRoad q ∷ closure_calls h
closure_calls (Slow q f ∷ h) = closure_calls h
closure_calls (Clear q ∷ h) = closure_calls h
closure_calls (Question s t ∷ h) = closure_calls h

-- Those calls of the history that change the layer of slowdowns, in order.
abbrev pub slowdown_calls : List Call → List SlowdownCall
slowdown_calls [] = []
slowdown_calls (Prepare d ∷ h) = slowdown_calls h
slowdown_calls (Close q ∷ h) = slowdown_calls h
slowdown_calls (Open q ∷ h) = slowdown_calls h
slowdown_calls (Slow q f ∷ h) = SlowRoad q f ∷ slowdown_calls h
slowdown_calls (Clear q ∷ h) = ClearRoad q ∷ slowdown_calls h
slowdown_calls (Question s t ∷ h) = slowdown_calls h

-- Whether the road r is closed: the last accepted close or open of it was a close.
abbrev pub is_closed : List Call → ℕ → Bool
is_closed h r = closed_by (closure_calls h) r

-- The figure of the road r: that of its last accepted slow, if no accepted clear of it came later.
abbrev pub figure_now : List Call → ℕ → Option ℕ
figure_now h r = figure_by (slowdown_calls h) r

-- Whether the row of the district i is prepared: a prepare of it was accepted.
abbrev pub is_row_prepared : List Call → ℕ → Bool
is_row_prepared [] i = false
is_row_prepared (Prepare d ∷ h) i = d.0 == i || is_row_prepared h i
is_row_prepared (Close q ∷ h) i = is_row_prepared h i
is_row_prepared (Open q ∷ h) i = is_row_prepared h i
is_row_prepared (Slow q f ∷ h) i = is_row_prepared h i
is_row_prepared (Clear q ∷ h) i = is_row_prepared h i
is_row_prepared (Question s t ∷ h) i = is_row_prepared h i

-- The map as it reads after the history: closed roads read as closed, and roads with a figure take at least that long.
abbrev pub map_after : MapModel → List Call → MapModel
map_after base h = closing (is_closed h) (slowing (figure_now h) base)

-- No road is closed and none has a figure.
abbrev pub no_entries : List Call → Bool
no_entries h = closures_by (closure_calls h) == 0 && figures_by (slowdown_calls h) == 0

-- ---- what the history leaves
-- The history leaves the unit so, in a measure of `thing`, `leq`, `plus`, `nil`, `blocked` and `price`, where `decoded`
-- gives the cost of a number and `base` is what the base map means: each layer is as its own calls say, and just the
-- rows of the districts that were prepared are prepared, and hold of the base map.
pub record LeftBy {K T : Type 0} (thing : K → T) (leq : T → T → Bool) (plus : K → K → K) (nil blocked : K) (price : ℕ → ℕ → K) (decoded : ℕ → K)
    (base : MapModel) (h : List Call) {G : Type 0} (map : Closures (Slowdowns G)) (table : Table) : Type 0 where
  pub closures : ClosuresLeftBy (closure_calls h) map
  pub slowdowns : SlowdownsLeftBy (slowdown_calls h) map.below
  pub prepared : (i : ℕ) → is_prepared table i ≡ is_row_prepared h i
  pub rows : (i : ℕ) → is_row_prepared h i ≡ true →
      RowHolds thing leq plus nil blocked price base i ((stored decoded table).entry i) ((stored decoded table).pair i)

-- ---- one call more
-- The history after one call more that was answered so: an accepted call comes in front, a refused one leaves no trace.
abbrev pub further : {A : Type 0} → List Call → Call → Result A Refusal → List Call
further h call (Ok x) = call ∷ h
further h call (Err e) = h

-- A layer's answer as the unit gives it: a refusal is handed on whole.
abbrev pub lifted : Result Unit LayerRefusal → Result Unit Refusal
lifted (Ok u) = Ok u
lifted (Err e) = Err (Layer e)

-- What a close or an open answers: the base map and the history decide it.
abbrev pub closure_answer : MapModel → List Call → ClosureCall → Result Unit Refusal
closure_answer base h call = lifted (closures_answer_by base (closure_calls h) call)

-- What a slow or a clear answers: the base map and the history decide it.
abbrev pub slowdown_answer : MapModel → List Call → SlowdownCall → Result Unit Refusal
slowdown_answer base h call = lifted (slowdowns_answer_by base (slowdown_calls h) call)

-- A call on a unit after the history h, which says that it answers `by_history`. So it does, and the history after the
-- call says how it leaves the unit, with that map and that table.
pub record ByHistory {K T : Type 0} (thing : K → T) (leq : T → T → Bool) (plus : K → K → K) (nil blocked : K) (price : ℕ → ℕ → K) (decoded : ℕ → K)
    (base : MapModel) (h : List Call) (call : Call) {A : Type 0} (by_history a : Result A Refusal) {G : Type 0} (map : Closures (Slowdowns G)) (table : Table) : Type 0 where
  pub answered : a ≡ by_history
  pub left : LeftBy thing leq plus nil blocked price decoded base (further h call a) map table
