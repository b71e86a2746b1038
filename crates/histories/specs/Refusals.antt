-- The numbers of a unit's refusals.
use Rattle.std.specs.Prelude.{ℕ}
use Rattle.entries.specs.Refusals.{number_of as layer_number}
use Rattle.histories.specs.declared.refusals.Refusal.{Refusal}
use Rattle.histories.specs.declared.refusals.Refusal.TheVariants.{Layer, NoSuchDistrict, NoSuchPlace, ShortRow, SmallFringe, ShortList}

-- A layer's refusal keeps its own number. 21: no such district. 22: no such place. 23: a row of labels is too short.
-- 24: a fringe is too small. 25: the list is too short.
abbrev pub number_of : Refusal → ℕ
number_of (Layer r) = layer_number r
number_of NoSuchDistrict = 21
number_of NoSuchPlace = 22
number_of ShortRow = 23
number_of SmallFringe = 24
number_of ShortList = 25
