-- The chain of origins of a place, step by step.
use Rattle.std.proofs.Common.{◌≡◌, ℕ, suc, List, sym, refl, ap, ◌∙◌}
use mathlib.Core.Option.{some, none}
use Rattle.routes.specs.declared.labels.Label.{Label as Mark}
use Rattle.routes.specs.States.{Origin, Start, From, Label, Blank, Reached, Settled}
use Rattle.routes.specs.Labels.{label_view, labels_view}
use Rattle.routes.specs.Search.{label_at}
use Rattle.routes.specs.Sweeps.{root}
use Rattle.routes.proofs.LabelViews.{view_at}
use Rattle.routes.proofs.Gate.{none_some, some_one}
use Rattle.halves.specs.Labels.{spot}
use Rattle.preparing.specs.Chains.{named, comes_from}

module _ {K : Type 0} (l : List (Label K)) (k v : ℕ) where
  abbrev step_by : Origin → ℕ
  step_by o = elim o [ Start ↦ v | From u ↦ root k l u ]

  abbrev step : Label K → ℕ
  step z = elim z [ Blank ↦ v | Reached c o ↦ step_by o | Settled c o ↦ step_by o ]

  -- a place that comes from another has its root
  pub root_on : (u : ℕ) → comes_from (label_at l v) ≡ some u → root (suc k) l v ≡ root k l u
  root_on u e = by (label_at l v) e
    where
      by_origin : (o : Origin) → named o ≡ some u → step_by o ≡ root k l u
      by_origin Start h = absurd (none_some (named Start) u refl h)
      by_origin (From w) h = ap (root k l) (some_one (some w) w u refl h)

      by : (z : Label K) → comes_from z ≡ some u → step z ≡ root k l u
      by Blank h = absurd (none_some {K = ℕ} none u refl h)
      by (Reached c o) h = by_origin o h
      by (Settled c o) h = by_origin o h

  -- a place that does not is the root
  pub root_here : comes_from (label_at l v) ≡ none → root (suc k) l v ≡ v
  root_here e = by (label_at l v) e
    where
      by_origin : (o : Origin) → named o ≡ none → step_by o ≡ v
      by_origin Start h = refl
      by_origin (From w) h = absurd (none_some (some w) w h refl)

      by : (z : Label K) → comes_from z ≡ none → step z ≡ v
      by Blank h = refl
      by (Reached c o) h = by_origin o h
      by (Settled c o) h = by_origin o h

-- the same, over the labels of code: x is the label of v
module _ {K : Type 0} (f : ℕ → ℕ) (labels : List (Mark K)) (x : Mark K) (k v : ℕ) (is : x ≡ spot labels v) where
  seen : comes_from (label_at (labels_view f labels) v) ≡ comes_from (label_view f x)
  seen = ap comes_from (view_at f labels v ∙ sym (ap (label_view f) is))

  pub goes_back : (u : ℕ) → some u ≡ comes_from (label_view f x) → root (suc k) (labels_view f labels) v ≡ root k (labels_view f labels) u
  goes_back u e = root_on (labels_view f labels) k v u (seen ∙ sym e)

  pub begins_here : none ≡ comes_from (label_view f x) → root (suc k) (labels_view f labels) v ≡ v
  begins_here e = root_here (labels_view f labels) k v (seen ∙ sym e)
