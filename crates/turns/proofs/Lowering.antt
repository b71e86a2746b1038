-- The upper bound through a stored pair.
use Rattle.std.proofs.Common.{◌≡◌, ℕ, Bool, true, false, eqb, List, get_or, Some, None, Option, ap, ◌∙◌}
use Rattle.fringe.specs.declared.place.Place.{Place}
use Rattle.routes.specs.declared.labels.Label.{Label}
use Rattle.routes.specs.declared.labels.Label.TheVariants.{Blank}
use Rattle.routes.specs.Labels.{label_view, labels_view}
use Rattle.routes.specs.Search.{Ops, lowered, through, label_at}
use Rattle.routes.proofs.LabelViews.{view_at}
use Rattle.table.specs.Views.{ends_of}

module _ {K : Type 0} (O : Ops K) (f : ℕ → ℕ) (others : List (Label K)) (u : ℕ) (c upper : K) where
  pub lowered_none : (pair : Option (Place × Place)) → pair ≡ None → lowered O (ends_of pair) u c (labels_view f others) upper ≡ upper
  lowered_none pair e = ap (λ p. lowered O (ends_of p) u c (labels_view f others) upper) e

  module _ (pair : Option (Place × Place)) (p : Place × Place) (e : pair ≡ Some p) where
    abbrev by_start : Bool → K
    by_start b = elim b [ true ↦ through O (label_at (labels_view f others) p.1.0) c upper | false ↦ upper ]

    pub lowered_other : eqb p.0.0 u ≡ false → lowered O (ends_of pair) u c (labels_view f others) upper ≡ upper
    lowered_other n = ap (λ q. lowered O (ends_of q) u c (labels_view f others) upper) e ∙ ap by_start n

    pub lowered_here : eqb p.0.0 u ≡ true → lowered O (ends_of pair) u c (labels_view f others) upper ≡ through O (label_view f (get_or others p.1.0 Blank)) c upper
    lowered_here y = ap (λ q. lowered O (ends_of q) u c (labels_view f others) upper) e ∙ ap by_start y ∙ ap (λ l. through O l c upper) (view_at f others p.1.0)
