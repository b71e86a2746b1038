-- The numbers of a fringe's refusals.
use Rattle.std.specs.Prelude.{ℕ}
use Rattle.fringe.specs.declared.fringes.Refusal.{Refusal}
use Rattle.fringe.specs.declared.fringes.Refusal.TheVariants.{NoRoom}

-- 24: the place does not fit.
abbrev pub number_of : Refusal → ℕ
number_of NoRoom = 24
