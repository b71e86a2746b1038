-- How many places and roads of a map pass a test.
use Rattle.std.specs.Prelude.{ℕ, zero, suc, ◌+◌, Bool, false, cond, not, ◌&&◌, Some, None, Option}
use Rattle.map.specs.declared.roads.Road.{Road}
use Rattle.map.specs.Model.{MapModel, is_in}

-- How many of the numbers below n pass.
abbrev pub count : (ℕ → Bool) → ℕ → ℕ
count passes zero = 0
count passes (suc n) = count passes n + cond (passes n) 1 0

-- The road starts in the district d and ends in another.
abbrev pub crosses : MapModel → ℕ → Option Road → Bool
crosses m d None = false
crosses m d (Some x) = is_in m d x.start.0 && not (is_in m d x.end.0)

-- How many places the district d has, and how many roads, open or closed, leave it.
abbrev pub places_in : MapModel → ℕ → ℕ
places_in m d = count (is_in m d) m.places

abbrev pub roads_leaving : MapModel → ℕ → ℕ
roads_leaving m d = count (λ r. crosses m d (m.road r)) m.roads
