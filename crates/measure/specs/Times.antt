-- Time: seconds, of which 4,294,967,295 are blocked.
use Rattle.std.specs.Prelude.{ℕ, ◌+◌, min}
use Rattle.measure.specs.declared.time.Time.{Time}

-- So many seconds.
abbrev pub time : ℕ → Time
time n = record { 0 = n }

-- The seconds that a time stands for. All that a u32 can hold stand for themselves.
abbrev pub seconds_of : Time → ℕ
seconds_of a = min a.0 4294967295

-- One time and then another, stopped at blocked.
abbrev pub add_time : Time → Time → Time
add_time a b = time (min (a.0 + b.0) 4294967295)
