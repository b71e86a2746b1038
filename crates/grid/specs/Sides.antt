-- What a list of road numbers answers.
use Rattle.std.specs.Prelude.{ℕ, cond, List, length, Some, None, Option, nat_lt, slice_index}
use Rattle.map.specs.declared.numbers.RoadId.{RoadId}

-- The j-th number, absent where there are no more.
abbrev pub nth : List ℕ → ℕ → Option RoadId
nth l j = cond (nat_lt j (length l)) (Some (record { 0 = slice_index l j })) None
