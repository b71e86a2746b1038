-- How a spread from a district begins.
use Rattle.std.specs.Prelude.{◌≡◌, ℕ, ◌<◌, cond, List, length}
use Rattle.map.specs.Model.{MapModel, is_in}
use Rattle.routes.specs.declared.labels.Origin.TheVariants.{Start}
use Rattle.routes.specs.declared.labels.Label.{Label}
use Rattle.routes.specs.declared.labels.Label.TheVariants.{Blank, Reached}
use Rattle.halves.specs.Labels.{spot}

-- The label that the place v begins with: reached at nothing if it is of the district, and otherwise blank.
abbrev pub first_label : {C : Type 0} → MapModel → ℕ → C → ℕ → Label C
first_label m d nil v = cond (is_in m d v) (Reached nil Start) Blank

-- A row of n labels at the beginning of a spread from the district d.
pub record Sown {C : Type 0} (m : MapModel) (d : ℕ) (nil : C) (n : ℕ) (labels : List (Label C)) : Type 0 where
  pub sized : length labels ≡ n
  pub each : (v : ℕ) → v < n → spot labels v ≡ first_label m d nil v
