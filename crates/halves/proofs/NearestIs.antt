-- Settling the least, on labels as the search has them, settles the nearest place of the search.
use Rattle.std.proofs.Common.{◌≡◌, ℕ, Bool, List, set, Some, sym, refl, ap, ◌∙◌, subst, ⊎_elim, zero-add, arith}
use mathlib.Core.Option.{Option as Maybe, some, none}
use Rattle.std.proofs.lemmas.Bool.{cases_lt, both_ways}
use Rattle.fringe.specs.Orders.{TotalOrder}
use Rattle.measure.specs.Costs.{CostLaws}
use Rattle.routes.specs.declared.labels.Label.{Label}
use Rattle.routes.specs.declared.labels.Label.TheVariants.{Blank, Reached, Settled}
use Rattle.routes.specs.States as states
use Rattle.routes.specs.Costs.{Costs}
use Rattle.routes.specs.Scales.{Scale}
use Rattle.routes.specs.Labels.{origin_view, label_view, labels_view}
use Rattle.routes.specs.Search.{Ops, ops_of, Found, label_at}
use Rattle.routes.specs.Search as search_spec
use Rattle.routes.proofs.Linked as linked
use Rattle.routes.proofs.Parts as parts
use Rattle.routes.proofs.LabelViews.{view_length, view_at, view_set}
use Rattle.halves.specs.Labels.{spot}
use Rattle.routes.specs.Parts.{waiting}
use Rattle.halves.specs.Settling.{Settles, Idle}
use Rattle.halves.proofs.Alikes.{never}

reached_waits : {K : Type 0} (f : ℕ → ℕ) (l : Label K) (d : K) → states.IsReached (label_view f l) d → waiting l ≡ Some d
reached_waits f Blank d h = absurd h
reached_waits f (Reached c o) d h = ap Some h
reached_waits f (Settled c o) d h = absurd h

module _ {K T : Type 0} (thing : K → T) (leq : T → T → Bool) (order : TotalOrder leq)
    (plus : K → K → K) (nil blocked : K) (price : ℕ → ℕ → K) (code : K → ℕ) (laws : CostLaws thing leq plus nil blocked price code)
    (f : ℕ → ℕ) (before after : List (Label K)) where
  abbrev C : Costs
  C = linked.costs thing leq order plus nil blocked price code laws

  abbrev S : Scale C
  S = linked.scale thing leq order plus nil blocked price code laws

  abbrev O : Ops K
  O = ops_of thing leq plus nil blocked

  waits_at : (q : ℕ) (d : K) → states.IsReached (label_at (labels_view f before) q) d → waiting (spot before q) ≡ Some d
  waits_at q d h = reached_waits f (spot before q) d (subst (λ x. states.IsReached x d) (view_at f before q) h)

  -- nothing is reached
  pub idle_is : Idle thing leq before after → search_spec.nearest O 0 (labels_view f before) ≡ none
  idle_is i = by (search_spec.nearest O 0 (labels_view f before)) refl (parts.nearest_ok C S 0 (labels_view f before))
    where
      by : (o : Maybe (Found K)) → search_spec.nearest O 0 (labels_view f before) ≡ o → parts.NearestOk C S 0 (labels_view f before) o → search_spec.nearest O 0 (labels_view f before) ≡ none
      by none e h = e
      by (some g) e h = absurd (never (i.none h.at) (waits_at h.at g.cost (subst (λ x. states.IsReached x g.cost) (sym h.label_is) refl)))

  -- the place p was settled
  module _ (p : ℕ) (c : K) (s : Settles thing leq before after p c) where
    abbrev found : Found K
    found = record { place = p; cost = c; origin = origin_view f s.origin }

    label_is : label_at (labels_view f before) p ≡ states.Reached c (origin_view f s.origin)
    label_is = view_at f before p ∙ ap (label_view f) s.was

    near : parts.Nearest C S 0 (labels_view f before) found
    near = record {
      at = p;
      place_is = sym (zero-add p);
      in_range = let k = s.known in let n = view_length f before in omega arith;
      label_is = label_is;
      least = λ q d h. s.least q d (waits_at q d h);
      lowest = λ q d h w. ⊎_elim (λ l. absurd (both_ways (leq (thing d) (thing c)) (s.lowest q d l (waits_at q d h)) w)) (λ l. l) (cases_lt q p);
    }

    pub nearest_is : search_spec.nearest O 0 (labels_view f before) ≡ some found
    nearest_is = by (search_spec.nearest O 0 (labels_view f before)) refl (parts.nearest_ok C S 0 (labels_view f before))
      where
        by : (o : Maybe (Found K)) → search_spec.nearest O 0 (labels_view f before) ≡ o → parts.NearestOk C S 0 (labels_view f before) o → search_spec.nearest O 0 (labels_view f before) ≡ some found
        by none e h = absurd (h p c (subst (λ x. states.IsReached x c) (sym label_is) refl))
        by (some g) e h = e ∙ ap some (parts.nearest_one C S 0 (labels_view f before) g found h near)

    -- its label after, as the search settles it
    pub settled_is : labels_view f after ≡ set (labels_view f before) p (states.Settled c (origin_view f s.origin))
    settled_is = ap (labels_view f) s.is ∙ view_set f before p (Settled c s.origin)
