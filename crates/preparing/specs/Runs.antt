-- A spread turn by turn.
use Rattle.std.specs.Prelude.{◌≡◌, ℕ, ◌+◌, ◌<◌, ◌≤◌, Bool, List, length, None, Option}
use Rattle.fringe.specs.declared.place.Place.{Place}
use Rattle.map.specs.Model.{MapModel, leaving}
use Rattle.routes.specs.declared.labels.Label.{Label}
use Rattle.halves.specs.Labels.{spot}
use Rattle.routes.specs.Parts.{waiting}
use Rattle.halves.specs.Settling.{Settles}
use Rattle.halves.specs.Expansions.{driven_along}
use Rattle.preparing.specs.Firsts.{noted}

module _ {C T : Type 0} (thing : C → T) (leq : T → T → Bool) (plus : C → C → C) (price : ℕ → ℕ → C) (m : MapModel) (labels₀ : List (Label C)) (firsts₀ : List (Option Place)) where
  -- So many turns lead to these labels and first places: each turn settles the least place that is reached, notes it, and
  -- relaxes its open roads.
  pub data Runs : ℕ → List (Label C) → List (Option Place) → Type 0 where
    begun : Runs 0 labels₀ firsts₀
    turned : {n : ℕ} {before mid : List (Label C)} {firsts : List (Option Place)} (p : Place) (c : C) →
        Runs n before firsts → Settles thing leq before mid p.0 c → Runs (n + 1) (driven_along thing leq plus price m c (leaving m p.0) mid) (noted m p firsts)

  -- The spread after so many turns, which are as many as there are labels unless nothing is reached any more.
  pub record Ran (n : ℕ) (labels : List (Label C)) (firsts : List (Option Place)) : Type 0 where
    pub runs : Runs n labels firsts
    pub few : n ≤ length labels₀
    pub spent : n < length labels₀ → (v : ℕ) → waiting (spot labels v) ≡ None
