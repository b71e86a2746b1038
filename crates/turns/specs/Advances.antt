-- What a turn does once its place is settled.
use Rattle.std.specs.Prelude.{◌≡◌, ℕ, ◌<◌, Bool, List, length, slice_set}
use Rattle.map.specs.Model.{MapModel}
use Rattle.routes.specs.declared.labels.Label.{Label}
use Rattle.routes.specs.States.{Origin, Settled}
use Rattle.routes.specs.Labels.{labels_view, start_at}
use Rattle.routes.specs.Search.{Given, Both, own}
use Rattle.turns.specs.declared.findings.Findings.{Findings}
use Rattle.turns.specs.declared.findings.Between.{Between}
use Rattle.turns.specs.Findings.{Beside, FewTurns}
use Rattle.turns.specs.Fits.{Fits}
use Rattle.table.specs.Views.{ends_of}

-- The turn that the state x is in, of a side that starts at s and whose goal is t, on what G gives: the place u was settled
-- at c from o, `gate` says whether it is a border place of the side's own district, and `between` is what the table says.
pub record SettledAt {K : Type 0} (price : ℕ → ℕ → K) (m : MapModel) (back_of : ℕ → ℕ) (mine theirs : List (Label K)) (found : Findings K)
    (u : ℕ) (c : K) (gate : Bool) (between : Between K) (G : Given K) (s t : ℕ) (x : Both K) (o : Origin) : Type 0 where
  pub fits : Fits price m G
  pub sized : length mine ≡ m.places
  pub known : u < m.places
  pub labels : labels_view (start_at m) mine ≡ slice_set x.fore.labels u (Settled c o)
  pub beside : Beside back_of theirs found x
  pub few : FewTurns x
  pub gate_is : gate ≡ own G s u
  pub entry_is : between.cost ≡ G.entry (G.district u) (G.district t)
  pub pair_is : ends_of between.pair ≡ G.pair (G.district u) (G.district t)
