-- The numbers of the layers' refusals.
use Rattle.std.specs.Prelude.{ℕ}
use Rattle.entries.specs.declared.refusals.Refusal.{Refusal}
use Rattle.entries.specs.declared.refusals.Refusal.TheVariants.{NoSuchRoad, AlreadyClosed, NoEntry, Full, TooSlow}

-- 11: no such road. 12: already on the layer. 13: no entry. 14: 64 entries. 15: a figure over 60,000.
abbrev pub number_of : Refusal → ℕ
number_of NoSuchRoad = 11
number_of AlreadyClosed = 12
number_of NoEntry = 13
number_of Full = 14
number_of TooSlow = 15
