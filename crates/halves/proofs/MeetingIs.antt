-- The best meeting place, on labels as the search has them, is the least sum of the search.
use Rattle.std.proofs.Common.{◌≡◌, ℕ, ◌<◌, Bool, true, false, cond, not, ◌&&◌, ◌||◌, ltb, leb, List, [], ◌∷◌, Some, None, Option, sym, refl, ap, ◌∙◌, ap₂, ⊎_elim}
use mathlib.Core.Option.{Option as Maybe, some, none}
use Rattle.std.proofs.lemmas.Bool.{cases_lt, lt-ltb, le-ltb, le-leb, lt-leb}
use Rattle.fringe.specs.Orders.{TotalOrder}
use Rattle.fringe.specs.declared.place.Place.{Place}
use Rattle.map.specs.declared.roads.Road.{Road}
use Rattle.map.specs.declared.roads.Mark.{Mark}
use Rattle.map.specs.declared.roads.Mark.TheVariants.{Open, Closed}
use Rattle.map.specs.Model.{MapModel, WellFormed, leaving}
use Rattle.measure.specs.Costs.{CostLaws}
use Rattle.routes.specs.declared.labels.Label.{Label}
use Rattle.routes.specs.declared.labels.Label.TheVariants.{Blank, Reached, Settled}
use Rattle.routes.specs.States.{Start}
use Rattle.routes.specs.Labels.{label_view, labels_view}
use Rattle.routes.specs.Search.{Ops, ops_of, Found, label_at, cost_of}
use Rattle.routes.specs.Search as search_spec
use Rattle.routes.specs.Rows as R
use Rattle.routes.specs.Asking.{Table, given, is_open, in_front, row_of}
use Rattle.routes.proofs.Along as along_rows
use Rattle.routes.proofs.LabelViews.{view_at}
use Rattle.halves.specs.Labels.{spot}
use Rattle.halves.specs.Meetings.{joined, sum_at, nearer, met_over, best_along}
use Rattle.routes.specs.Parts.{paid}
use Rattle.halves.specs.Views.{meeting_view}
use Rattle.halves.proofs.ExpandIs.{leaving_is}

ltb_not_leb : (a b : ℕ) → ltb a b ≡ not (leb b a)
ltb_not_leb a b = ⊎_elim
    (λ l. lt-ltb a b l ∙ sym (ap not (lt-leb b a l)))
    (λ l. le-ltb a b l ∙ sym (ap not (le-leb b a l)))
    (cases_lt a b)

abbrev maybe : {K : Type 0} → Option K → Maybe K
maybe None = none
maybe (Some c) = some c

module _ {K T : Type 0} (thing : K → T) (leq : T → T → Bool) (plus : K → K → K) (nil blocked : K) (price : ℕ → ℕ → K) (f g : ℕ → ℕ) (m : MapModel) where
  abbrev O : Ops K
  O = ops_of thing leq plus nil blocked

  cost_view : (h : ℕ → ℕ) (l : Label K) → cost_of (label_view h l) ≡ maybe (paid l)
  cost_view h Blank = refl
  cost_view h (Reached c o) = refl
  cost_view h (Settled c o) = refl

  preferred_view : (a b : Option K) (v : Place) (found : Option (Place × K)) → R.preferred O (maybe a) (maybe b) v.0 (meeting_view found) ≡ meeting_view (nearer thing leq found v (joined plus a b))
  preferred_view None b v found = refl
  preferred_view (Some a) None v found = refl
  preferred_view (Some a) (Some b) v None = refl
  preferred_view (Some a) (Some b) v (Some x) = by (leq (thing x.1) (thing (plus a b))) (leq (thing (plus a b)) (thing x.1)) (leb x.0.0 v.0) (ltb v.0 x.0.0) (ltb_not_leb v.0 x.0.0)
    where
      old : Found K
      old = record { place = x.0.0; cost = x.1; origin = Start }

      new : Found K
      new = record { place = v.0; cost = plus a b; origin = Start }

      by : (p q s t : Bool) → t ≡ not s →
          some (elim p as (λ _. Found K) [ false ↦ new | true ↦ elim q as (λ _. Found K) [ false ↦ old | true ↦ elim s as (λ _. Found K) [ true ↦ old | false ↦ new ] ] ]) ≡
          meeting_view (cond (not p || (q && t)) (Some (v, plus a b)) (Some x))
      by false q s t e = refl
      by true false s t e = refl
      by true true true t e = sym (ap (λ z. meeting_view (cond z (Some (v, plus a b)) (Some x))) e)
      by true true false t e = sym (ap (λ z. meeting_view (cond z (Some (v, plus a b)) (Some x))) e)

  module _ (own other : List (Label K)) where
    met_view : (o : Option Road) (row : R.Row K) (found : Option (Place × K)) →
        R.sum_row O (in_front price (λ x. x.end) o row) (labels_view f own) (labels_view g other) (meeting_view found) ≡
        R.sum_row O row (labels_view f own) (labels_view g other) (meeting_view (met_over thing leq plus own other o found))
    met_view None row found = refl
    met_view (Some x) row found = by x.mark
      where
        v : ℕ
        v = x.end.0

        by : (k : Mark) → R.sum_row O (cond (is_open k) ((v, price x.seconds x.steepness) ∷ row) row) (labels_view f own) (labels_view g other) (meeting_view found) ≡
            R.sum_row O row (labels_view f own) (labels_view g other) (meeting_view (cond (is_open k) (nearer thing leq found x.end (sum_at plus own other v)) found))
        by Closed = refl
        by Open = ap (R.sum_row O row (labels_view f own) (labels_view g other))
            (ap₂ (λ a b. R.preferred O a b v (meeting_view found)) (ap cost_of (view_at f own v) ∙ cost_view f (spot own v)) (ap cost_of (view_at g other v) ∙ cost_view g (spot other v))
            ∙ preferred_view (paid (spot own v)) (paid (spot other v)) x.end found)

    pub best_view : (rs : List ℕ) (found : Option (Place × K)) →
        R.sum_row O (row_of price (λ x. x.end) m rs) (labels_view f own) (labels_view g other) (meeting_view found) ≡ meeting_view (best_along thing leq plus own other m rs found)
    best_view [] found = refl
    best_view (r ∷ rs) found = met_view (m.road r) (row_of price (λ x. x.end) m rs) found ∙ best_view rs (met_over thing leq plus own other (m.road r) found)

module _ {K T : Type 0} (thing : K → T) (leq : T → T → Bool) (order : TotalOrder leq)
    (plus : K → K → K) (nil blocked : K) (price : ℕ → ℕ → K) (code : K → ℕ) (laws : CostLaws thing leq plus nil blocked price code)
    (m : MapModel) (fits : WellFormed m) (u : ℕ) (l : u < m.places) where
  -- whichever places the roads in the labels of the two sides stand for
  pub meeting_is : (base : MapModel) (table : Table K) (empty : Bool) (f g : ℕ → ℕ) (own other : List (Label K)) →
      meeting_view (best_along thing leq plus own other m (leaving m u) None) ≡
      search_spec.sums (ops_of thing leq plus nil blocked) ((given nil price m base table empty).price u) 0 (labels_view f own) (labels_view g other)
  meeting_is base table empty f g own other =
      ap (λ rs. meeting_view (best_along thing leq plus own other m rs None)) (leaving_is m u l)
      ∙ sym (best_view thing leq plus nil blocked price f g m own other (m.departures u) None)
      ∙ along_rows.sum_out thing leq order plus nil blocked price code laws m base fits table empty u l (labels_view f own) (labels_view g other)
