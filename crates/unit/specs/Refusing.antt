-- When a prepare or a question is refused. The order of the conditions is that in which they are judged.
use Rattle.std.specs.Prelude.{ℕ, cond, ◌&&◌, Some, None, Ok, Err, Option, Result, nat_le, nat_lt}
use Rattle.map.specs.Model.{MapModel}
use Rattle.histories.specs.declared.refusals.Refusal.{Refusal}
use Rattle.histories.specs.declared.refusals.Refusal.TheVariants.{NoSuchDistrict, NoSuchPlace, ShortRow, SmallFringe, ShortList}

-- A prepare of the district d with two rows of labels and a fringe: no such district (21), a row shorter than the places are
-- many (23), a fringe that does not take them all (24).
abbrev pub prepare_refusal : MapModel → (d first second capacity : ℕ) → Option Refusal
prepare_refusal base d first second capacity =
    cond (nat_lt d base.districts)
    (cond (nat_le base.places first && nat_le base.places second) (cond (nat_le base.places capacity) None (Some SmallFringe)) (Some ShortRow)) (Some NoSuchDistrict)

-- A question from s to t with two rows of labels, two fringes and a list: no such place (22), a row shorter than the places
-- are many (23), a fringe that does not take them all (24), a list shorter than they are many (25).
abbrev pub question_refusal : MapModel → (s t fore back near far list : ℕ) → Option Refusal
question_refusal base s t fore back near far list =
    cond (nat_lt s base.places && nat_lt t base.places)
    (cond (nat_le base.places fore && nat_le base.places back)
    (cond (nat_le base.places near && nat_le base.places far) (cond (nat_le base.places list) None (Some ShortList)) (Some SmallFringe)) (Some ShortRow)) (Some NoSuchPlace)

-- Whether a call may go on.
abbrev pub verdict : Option Refusal → Result Unit Refusal
verdict None = Ok tt
verdict (Some e) = Err e
