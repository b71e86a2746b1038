-- What the calls of a table answer.
use Rattle.std.specs.Prelude.{ℕ, Bool, true, false, cond, Ok, Err, Result, nat_lt}
use Rattle.entries.specs.declared.refusals.Refusal.{Refusal}
use Rattle.entries.specs.declared.refusals.Refusal.TheVariants.{NoEntry, Full}

-- What putting an entry answers where it answers `again` for a road that has one already. That comes first, then
-- whether there is room.
abbrev pub put_answer : (again : Result Unit Refusal) (already : Bool) (count : ℕ) → Result Unit Refusal
put_answer again true count = again
put_answer again false count = cond (nat_lt count 64) (Ok tt) (Err Full)

-- What removing a road answers.
abbrev pub remove_answer : (there : Bool) → Result Unit Refusal
remove_answer true = Ok tt
remove_answer false = Err NoEntry
