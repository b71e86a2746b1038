-- The numbers of a cartridge's refusals, and what each carries.
use Rattle.std.specs.Prelude.{ℕ}
use Rattle.format.specs.declared.Refusal.{Refusal}
use Rattle.format.specs.declared.Refusal.TheVariants.{Cut, WrongTag, WrongLength, WrongCount, NoSuchDistrict, EmptyDistrict, WrongRoad, WrongArrival}

-- 1 to 3: the fields as they are walked; 4 to 8: their contents.
abbrev pub number_of : Refusal → ℕ
number_of (Cut offset) = 1
number_of (WrongTag offset) = 2
number_of (WrongLength offset) = 3
number_of (WrongCount offset) = 4
number_of (NoSuchDistrict place) = 5
number_of (EmptyDistrict district) = 6
number_of (WrongRoad road) = 7
number_of (WrongArrival index) = 8

-- The offset of a field's tag (or of the first byte too many), a place, a district, or the index of an entry.
abbrev pub payload_of : Refusal → ℕ
payload_of (Cut offset) = offset
payload_of (WrongTag offset) = offset
payload_of (WrongLength offset) = offset
payload_of (WrongCount offset) = offset
payload_of (NoSuchDistrict place) = place.0
payload_of (EmptyDistrict district) = district.0
payload_of (WrongRoad road) = road.0
payload_of (WrongArrival index) = index
