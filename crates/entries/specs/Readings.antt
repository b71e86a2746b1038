-- How a road reads through its entry on a layer.
use Rattle.std.specs.Prelude.{ℕ, max, Bool, cond, Some, None, Option}
use Rattle.map.specs.declared.roads.Mark.TheVariants.{Closed}
use Rattle.map.specs.declared.roads.Road.{Road}
use Rattle.map.specs.Model.{MapModel}
use Rattle.map.specs.Through.{through}

-- The road with the mark closed if it is on the layer, and otherwise as it is.
abbrev pub shut : Bool → Road → Road
shut closed x = record { start = x.start; end = x.end; seconds = x.seconds; steepness = x.steepness; mark = cond closed Closed x.mark }

-- The greater of the seconds and the figure, if there is one.
abbrev pub at_least : Option ℕ → ℕ → ℕ
at_least None seconds = seconds
at_least (Some f) seconds = max seconds f

-- The road with at least the seconds of its figure, if it has one.
abbrev pub slowed : Option ℕ → Road → Road
slowed own x = record { start = x.start; end = x.end; seconds = at_least own x.seconds; steepness = x.steepness; mark = x.mark }

-- The map m with those roads read as closed.
abbrev pub closing : (ℕ → Bool) → MapModel → MapModel
closing closed m = through (λ r. shut (closed r)) m

-- The map m with roads read as slow as their figures say.
abbrev pub slowing : (ℕ → Option ℕ) → MapModel → MapModel
slowing figures m = through (λ r. slowed (figures r)) m
