-- What two fringes hold at least says whether the search is over.
use Rattle.std.proofs.Common.{◌≡◌, ℕ, Bool, List, Some, None, Option, sym, refl, ap, ◌∙◌, ap₂}
use Rattle.std.specs.Option.{option_map}
use Rattle.fringe.specs.declared.place.Place.{Place}
use Rattle.fringe.specs.Orders.{TotalOrder}
use Rattle.fringe.specs.Fringes.{Meaning, Least}
use Rattle.measure.specs.Costs.{CostLaws}
use Rattle.routes.specs.declared.labels.Label.{Label}
use Rattle.routes.specs.declared.labels.Label.TheVariants.{Blank, Reached, Settled}
use Rattle.routes.specs.Labels.{label_view, labels_view}
use Rattle.routes.specs.Search.{Ops, ops_of, nearest}
use Rattle.routes.specs.Measured.{both_at_most, one_thing}
use Rattle.routes.specs.Tracking.{reached_cost, Tracks}
use Rattle.routes.proofs.LabelViews.{view_at}
use Rattle.routes.proofs.Linked as linked
use Rattle.routes.proofs.Sums as sums
use Rattle.routes.proofs.Tracked as tracked
use Rattle.halves.specs.Labels.{spot}
use Rattle.routes.specs.Parts.{waiting}
use Rattle.halves.specs.Agreement.{Agree}
use Rattle.search.specs.Turns.{is_over, sum_reaches}

waits : {K : Type 0} (f : ℕ → ℕ) (l : Label K) → waiting l ≡ reached_cost (label_view f l)
waits f Blank = refl
waits f (Reached c o) = refl
waits f (Settled c o) = refl

module _ {K T : Type 0} (thing : K → T) (leq : T → T → Bool) where
  -- a fringe that agrees with a row tracks its labels
  pub agrees_tracks : (f : ℕ → ℕ) {V : Type 0} (m : Meaning K) (labels : List (Label K)) → Agree thing leq V m labels → Tracks thing leq m (labels_view f labels)
  agrees_tracks f m labels a q = a.holds q ∙ ap (option_map thing) (waits f (spot labels q) ∙ ap reached_cost (sym (view_at f labels q)))

module _ {K T : Type 0} (thing : K → T) (leq : T → T → Bool) (order : TotalOrder leq)
    (plus : K → K → K) (nil blocked : K) (price : ℕ → ℕ → K) (code : K → ℕ) (laws : CostLaws thing leq plus nil blocked price code) where
  abbrev O : Ops K
  O = ops_of thing leq plus nil blocked

  -- sums of costs that stand for the same
  sum_same : (a b c d : K) → thing a ≡ thing b → thing c ≡ thing d → thing (plus a c) ≡ thing (plus b d)
  sum_same a b c d h k = one_thing thing leq order plus nil blocked price code laws (plus a c) (plus b d)
      (sums.same_sum (linked.costs thing leq order plus nil blocked price code laws)
      (both_at_most thing leq order plus nil blocked price code laws a b h) (both_at_most thing leq order plus nil blocked price code laws c d k))

  module _ (f g : ℕ → ℕ) {V W : Type 0} (near far : Meaning K) (mine theirs : List (Label K)) (a : Agree thing leq V near mine) (b : Agree thing leq W far theirs) (best : K) where
    mine_tracked : Tracks thing leq near (labels_view f mine)
    mine_tracked = agrees_tracks thing leq f near mine a

    theirs_tracked : Tracks thing leq far (labels_view g theirs)
    theirs_tracked = agrees_tracks thing leq g far theirs b

    pub over_is : (p q : Option (Place × K)) → Least thing leq near p → Least thing leq far q →
        sum_reaches thing leq plus p q best ≡ is_over O (nearest O 0 (labels_view f mine)) (nearest O 0 (labels_view g theirs)) best
    over_is None q e h =
        sym (ap (λ z. is_over O z (nearest O 0 (labels_view g theirs)) best) (tracked.tracked_none thing leq order plus nil blocked price code laws near (labels_view f mine) mine_tracked e))
    over_is (Some p) None e h =
        let x = tracked.tracked_first thing leq order plus nil blocked price code laws near (labels_view f mine) mine_tracked p.0.0 p.1 e in
        sym (ap₂ (λ z w. is_over O z w best) x.nearest_is (tracked.tracked_none thing leq order plus nil blocked price code laws far (labels_view g theirs) theirs_tracked h))
    over_is (Some p) (Some q) e h =
        let x = tracked.tracked_first thing leq order plus nil blocked price code laws near (labels_view f mine) mine_tracked p.0.0 p.1 e in
        let y = tracked.tracked_first thing leq order plus nil blocked price code laws far (labels_view g theirs) theirs_tracked q.0.0 q.1 h in
        ap (leq (thing best)) (sum_same p.1 x.cost q.1 y.cost x.stands y.stands) ∙ sym (ap₂ (λ z w. is_over O z w best) x.nearest_is y.nearest_is)
