-- What the steps of code answer, as the search has it.
use Rattle.std.proofs.Math.Option.{Option as Maybe, some, none}
use Rattle.std.specs.Prelude.{Some, None, Option}
use Rattle.fringe.specs.declared.place.Place.{Place}
use Rattle.routes.specs.States.{Origin, Start}
use Rattle.routes.specs.Search.{Found}

-- A place with its cost, found from the given origin.
abbrev pub found_view : {K : Type 0} → Origin → Option (Place × K) → Maybe (Found K)
found_view o None = none
found_view o (Some b) = some (record { place = b.0.0; cost = b.1; origin = o })

-- A meeting place with its sum: the sums of the search have no origin of their own.
abbrev pub meeting_view : {K : Type 0} → Option (Place × K) → Maybe (Found K)
meeting_view r = found_view Start r
