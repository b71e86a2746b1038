-- The first settled place of each district.
use Rattle.std.specs.Prelude.{ℕ, cond, List, Some, None, Option, nat_lt, slice_index_or, slice_set}
use Rattle.std.proofs.Math.Option.{Option as Maybe, some, none}
use Rattle.fringe.specs.declared.place.Place.{Place}
use Rattle.map.specs.Model.{MapModel}

-- A place by its number, if there is one.
abbrev pub number_in : Option Place → Maybe ℕ
number_in None = none
number_in (Some p) = some p.0

-- The first settled place of each district, absent where none is settled.
abbrev pub first_at : List (Option Place) → ℕ → Maybe ℕ
first_at firsts j = number_in (slice_index_or firsts j None)

-- The first place of a district once p was settled in it: the place that came before, if one did.
abbrev pub sooner : Option Place → Place → Option Place
sooner None p = Some p
sooner (Some q) p = Some q

-- The first places once the place p was settled.
abbrev pub noted : MapModel → Place → List (Option Place) → List (Option Place)
noted m p firsts = cond (nat_lt p.0 m.places) (slice_set firsts (m.district p.0) (sooner (slice_index_or firsts (m.district p.0) None) p)) firsts
