-- What it is to relax every open road out of a place.
use Rattle.std.specs.Prelude.{ℕ, Bool, cond, List, [], ◌∷◌, Some, None, Option}
use Rattle.map.specs.declared.numbers.RoadId.{RoadId}
use Rattle.map.specs.declared.roads.Road.{Road}
use Rattle.map.specs.Model.{MapModel}
use Rattle.routes.specs.declared.labels.Label.{Label}
use Rattle.routes.specs.Asking.{is_open}
use Rattle.halves.specs.Labels.{offered_at}

module _ {C T : Type 0} (thing : C → T) (leq : T → T → Bool) (plus : C → C → C) (price : ℕ → ℕ → C) where
  -- The row once a road was relaxed from where c was paid: its end was offered the sum, if there is a road and it is open.
  abbrev pub driven : C → RoadId → Option Road → List (Label C) → List (Label C)
  driven c r None labels = labels
  driven c r (Some x) labels =
      cond (is_open x.mark) (offered_at thing leq (plus c (price x.seconds x.steepness)) r x.end.0 labels) labels

  -- The row once the roads of these numbers were, one by one.
  abbrev pub driven_along : MapModel → C → List ℕ → List (Label C) → List (Label C)
  driven_along m c [] labels = labels
  driven_along m c (r ∷ rs) labels = driven_along m c rs (driven c (record { 0 = r }) (m.road r) labels)
