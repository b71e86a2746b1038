-- The number of a grid's refusal.
use Rattle.std.specs.Prelude.{ℕ}
use Rattle.grid.specs.declared.refusals.Refusal.{Refusal}
use Rattle.grid.specs.declared.refusals.Refusal.TheVariants.{OutOfRange}

-- 9: a figure is out of range, or there are over 64 tiles.
abbrev pub number_of : Refusal → ℕ
number_of OutOfRange = 9
