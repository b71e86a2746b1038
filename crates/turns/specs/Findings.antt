-- What code has found, as the state of the search.
use Rattle.std.specs.Prelude.{◌≡◌, ℕ, ◌+◌, ◌<◌, List}
use Rattle.routes.specs.declared.labels.Label.{Label}
use Rattle.routes.specs.Labels.{labels_view}
use Rattle.routes.specs.Search.{Both}
use Rattle.turns.specs.declared.findings.Findings.{Findings}
use Rattle.turns.specs.Options.{maybe}

-- All of a state but the labels of the side whose turn it is: `back_of` gives the place that a road stands for on the
-- other side.
pub record Beside {K : Type 0} (back_of : ℕ → ℕ) (theirs : List (Label K)) (found : Findings K) (x : Both K) : Type 0 where
  pub gate : x.fore.gate ≡ maybe found.own_gate
  pub others : x.back.labels ≡ labels_view back_of theirs
  pub other_gate : x.back.gate ≡ maybe found.other_gate
  pub best : x.best ≡ found.best
  pub upper : x.upper ≡ found.upper
  pub meet : x.meet ≡ found.meet.0
  pub expansions : x.expansions ≡ found.expanded
  pub prunings : x.prunings ≡ found.pruned

-- The whole state: `start_of` gives the place that a road stands for on the side whose turn it is.
pub record Shown {K : Type 0} (start_of back_of : ℕ → ℕ) (mine theirs : List (Label K)) (found : Findings K) (x : Both K) : Type 0 where
  pub labels : x.fore.labels ≡ labels_view start_of mine
  pub beside : Beside back_of theirs found x

-- The counts are far from what a number of code can hold.
abbrev pub FewTurns : {K : Type 0} → Both K → Type 0
FewTurns x = x.expansions + x.prunings < 1000000
