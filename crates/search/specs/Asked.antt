-- What a search is asked for.
use Rattle.std.specs.Prelude.{◌≡◌, ℕ, ◌<◌, ◌≤◌}
use Rattle.map.specs.Model.{MapModel}

-- From s to t on a map that means m over a base map of so many places. Both rows have a label for each place, and no more,
-- and both fringes take each place.
pub record Asked (m : MapModel) (places s t fore back near far : ℕ) : Type 0 where
  pub level : places ≡ m.places
  pub start_known : s < m.places
  pub goal_known : t < m.places
  pub fore_sized : fore ≡ m.places
  pub back_sized : back ≡ m.places
  pub near_room : m.places ≤ near
  pub far_room : m.places ≤ far
