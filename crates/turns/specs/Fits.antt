-- When what a search is given is that of a map.
use Rattle.std.specs.Prelude.{◌≡◌, ℕ, ◌<◌}
use Rattle.map.specs.Model.{MapModel}
use Rattle.routes.specs.Search.{Given}
use Rattle.routes.specs.Rows.{look}
use Rattle.routes.specs.Asking.{open_roads}

-- As many places as the map has, and the roads that are open on it.
pub record Fits {K : Type 0} (price : ℕ → ℕ → K) (m : MapModel) (G : Given K) : Type 0 where
  pub size : G.size ≡ m.places
  pub roads : (u : ℕ) → u < m.places → G.price u ≡ look (open_roads price m u)
