-- What a search leaves where its sides met.
use Rattle.std.specs.Prelude.{◌≡◌, ℕ, List}
use Rattle.map.specs.Model.{MapModel}
use Rattle.map.specs.Turned.{turned_round}
use Rattle.routes.specs.declared.labels.Label.{Label}
use Rattle.routes.specs.Labels.{start_at, labels_view}
use Rattle.routes.specs.Search.{Both}
use Rattle.routes.specs.Unspliced.{Unspliced}

-- The labels of both sides of a search of n places whose state x met at `meet`, over a map that means m. Its two halves share
-- that place alone.
pub record Met {K : Type 0} (n : ℕ) (m : MapModel) (fore back : List (Label K)) (meet : ℕ) (x : Both K) : Type 0 where
  pub fore_is : x.fore.labels ≡ labels_view (start_at m) fore
  pub back_is : x.back.labels ≡ labels_view (start_at (turned_round m)) back
  pub meet_is : x.meet ≡ meet
  pub unspliced : Unspliced n x
