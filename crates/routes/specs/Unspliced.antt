-- The route of a search whose two halves share the meeting place alone.
use Rattle.std.specs.Prelude.{◌≡◌, ℕ, suc, ◌+◌, ◌<◌, ◌≤◌, List, ◌∷◌, length}
use Rattle.routes.specs.Promise.{Among, NoneTwice}
use Rattle.routes.specs.Routes.{onto}
use Rattle.routes.specs.Search.{Both, trail, route}

-- The route of the state x of a search over n places, without splicing.
pub record Unspliced {K : Type 0} (n : ℕ) (x : Both K) : Type 0 where
  -- the forward chain: the meeting place, and the places before it, the nearest first
  pub rest : List ℕ
  pub forward_is : trail (suc n) x.fore.labels x.meet ≡ x.meet ∷ rest
  -- the backward chain: the meeting place, and the places after it
  pub others : List ℕ
  pub backward_is : trail (suc n) x.back.labels x.meet ≡ x.meet ∷ others
  -- the route is the one turned round, and then the other
  pub route_is : route n x ≡ onto rest (x.meet ∷ others)
  pub length_is : length rest + suc (length others) ≡ length (route n x)
  -- it meets no place twice, and has only places that are there
  pub none_twice : NoneTwice (route n x)
  pub known : (y : ℕ) → Among y (route n x) → y < n
  pub short : length (route n x) ≤ n
  pub meet_known : x.meet < n
