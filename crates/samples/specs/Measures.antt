-- What is asked in time and in steepness, with the table prepared from the base map.
use Rattle.std.specs.Prelude.{ℕ, Bool, List, nat_le}
use Rattle.map.specs.Model.{MapModel}
use Rattle.measure.specs.declared.time.Time.{Time}
use Rattle.measure.specs.declared.steepness.Steepness.{Steepness}
use Rattle.measure.specs.Times.{time, seconds_of, add_time}
use Rattle.measure.specs.Steeps.{steep, per_mille_of, steeper}
use Rattle.routes.specs.Search.{Ops, ops_of, Answer, answer}
use Rattle.routes.specs.Asking.{given}
use Rattle.histories.specs.declared.calls.Call.{Call}
use Rattle.histories.specs.Histories.{is_row_prepared, map_after}
use Rattle.samples.specs.Preparing.{table_of}

-- The operations of time.
abbrev pub time_ops : Ops Time
time_ops = ops_of seconds_of nat_le add_time (time 0) (time 4294967295)

-- The time that a road costs: its seconds.
abbrev pub time_price : ℕ → ℕ → Time
time_price seconds _ = time seconds

-- The operations of steepness.
abbrev pub steep_ops : Ops Steepness
steep_ops = ops_of per_mille_of nat_le steeper (steep 0) (steep 65535)

-- The steepness that a road costs.
abbrev pub steep_price : ℕ → ℕ → Steepness
steep_price _ steepness = steep steepness

-- The answer to the question from s to t in time, after a history: `empty` says whether it left both layers empty.
abbrev pub time_answer : MapModel → List Call → Bool → ℕ → ℕ → Answer Time
time_answer base h empty s t =
    answer time_ops (given (time 0) time_price (map_after base h) base (table_of time_ops time_price base (is_row_prepared h)) empty) s t

-- The answer to the question from s to t in steepness, likewise.
abbrev pub steep_answer : MapModel → List Call → Bool → ℕ → ℕ → Answer Steepness
steep_answer base h empty s t =
    answer steep_ops (given (steep 0) steep_price (map_after base h) base (table_of steep_ops steep_price base (is_row_prepared h)) empty) s t
