-- Expanding a place, on labels as the search has them, is relaxing its roads as the search does.
use Rattle.std.proofs.Common.{◌≡◌, ℕ, suc, ◌<◌, Bool, true, false, cond, not, ltb, List, [], ◌∷◌, length, get_or, set, Some, None, Option, sym, refl, ap, ◌∙◌, arith}
use mathlib.Core.Option.{some}
use Rattle.std.proofs.lemmas.Bool.{lt-ltb, cond-true}
use Rattle.fringe.specs.Orders.{TotalOrder}
use Rattle.map.specs.declared.numbers.RoadId.{RoadId}
use Rattle.map.specs.declared.roads.Road.{Road}
use Rattle.map.specs.declared.roads.Mark.{Mark}
use Rattle.map.specs.declared.roads.Mark.TheVariants.{Open, Closed}
use Rattle.map.specs.Model.{MapModel, WellFormed, leaving}
use Rattle.measure.specs.Costs.{CostLaws}
use Rattle.routes.specs.declared.labels.Origin.TheVariants.{Road as by_road}
use Rattle.routes.specs.declared.labels.Label.{Label}
use Rattle.routes.specs.declared.labels.Label.TheVariants.{Blank, Reached, Settled}
use Rattle.routes.specs.States as states
use Rattle.routes.specs.Labels.{start_at, origin_view, label_view, labels_view}
use Rattle.routes.specs.Search.{Ops, ops_of, Given, label_at}
use Rattle.routes.specs.Search as search_spec
use Rattle.routes.specs.Rows as R
use Rattle.routes.specs.Asking.{Table, given, is_open, in_front, row_of}
use Rattle.routes.proofs.Along as along_rows
use Rattle.routes.proofs.LabelViews.{start_at_is, view_length, view_at, view_set}
use Rattle.halves.specs.Labels.{spot, offered, offered_at}
use Rattle.halves.specs.Expansions.{driven, driven_along}

pub leaving_is : (m : MapModel) (u : ℕ) → u < m.places → leaving m u ≡ m.departures u
leaving_is m u l = cond-true (ltb u m.places) (m.departures u) [] (lt-ltb u m.places l)

-- the roads out of u start there
pub from_there : (m : MapModel) → WellFormed m → (u : ℕ) → u < m.places → (j : ℕ) → j < length (m.departures u) → start_at m (get_or (m.departures u) j 0) ≡ u
from_there m fits u l j h = let t = (fits.departs u l).only j h in start_at_is m _ t.is t.there ∙ t.touches

module _ {K T : Type 0} (thing : K → T) (leq : T → T → Bool) (plus : K → K → K) (nil blocked : K) (price : ℕ → ℕ → K) (f : ℕ → ℕ) (m : MapModel) (u : ℕ) (c : K) where
  abbrev O : Ops K
  O = ops_of thing leq plus nil blocked

  label_offered : (r : RoadId) → f r.0 ≡ u → (p : K) (l : Label K) → search_spec.relaxed O (some p) u c (label_view f l) ≡ label_view f (offered thing leq (plus c p) r l)
  label_offered r e p Blank = ap (λ z. states.Reached (plus c p) (states.From z)) (sym e)
  label_offered r e p (Settled d o) = refl
  label_offered r e p (Reached d o) = by (leq (thing d) (thing (plus c p)))
    where
      by : (b : Bool) → (elim b as (λ _. states.Label K) [ true ↦ states.Reached d (origin_view f o) | false ↦ states.Reached (plus c p) (states.From u) ]) ≡
          label_view f (cond (not b) (Reached (plus c p) (by_road r)) (Reached d o))
      by true = refl
      by false = ap (λ z. states.Reached (plus c p) (states.From z)) (sym e)

  offered_view : (r : RoadId) → f r.0 ≡ u → (p : K) (v : ℕ) (l : List (Label K)) →
      set (labels_view f l) v (search_spec.relaxed O (some p) u c (label_at (labels_view f l) v)) ≡ labels_view f (offered_at thing leq (plus c p) r v l)
  offered_view r e p v l =
      ap (λ x. set (labels_view f l) v (search_spec.relaxed O (some p) u c x)) (view_at f l v) ∙ ap (set (labels_view f l) v) (label_offered r e p (spot l v))
      ∙ sym (view_set f l v (offered thing leq (plus c p) r (spot l v)))

  driven_view : (r : RoadId) → f r.0 ≡ u → (o : Option Road) (row : R.Row K) (l : List (Label K)) →
      R.relax_row O (in_front price (λ x. x.end) o row) u c (labels_view f l) ≡ R.relax_row O row u c (labels_view f (driven thing leq plus price c r o l))
  driven_view r e None row l = refl
  driven_view r e (Some x) row l = by x.mark
    where
      p : K
      p = price x.seconds x.steepness

      by : (k : Mark) → R.relax_row O (cond (is_open k) ((x.end.0, p) ∷ row) row) u c (labels_view f l) ≡
          R.relax_row O row u c (labels_view f (cond (is_open k) (offered_at thing leq (plus c p) r x.end.0 l) l))
      by Open = ap (R.relax_row O row u c) (offered_view r e p x.end.0 l)
      by Closed = refl

  -- along the roads of these numbers, which all come from u
  pub along_view : (rs : List ℕ) → ((j : ℕ) → j < length rs → f (get_or rs j 0) ≡ u) → (l : List (Label K)) →
      R.relax_row O (row_of price (λ x. x.end) m rs) u c (labels_view f l) ≡ labels_view f (driven_along thing leq plus price m c rs l)
  along_view [] h l = refl
  along_view (r ∷ rs) h l =
      driven_view (record { 0 = r }) (h 0 (omega arith)) (m.road r) (row_of price (λ x. x.end) m rs) l
      ∙ along_view rs (λ j k. h (suc j) (omega (arith, k))) (driven thing leq plus price c (record { 0 = r }) (m.road r) l)

module _ {K T : Type 0} (thing : K → T) (leq : T → T → Bool) (order : TotalOrder leq)
    (plus : K → K → K) (nil blocked : K) (price : ℕ → ℕ → K) (code : K → ℕ) (laws : CostLaws thing leq plus nil blocked price code)
    (m : MapModel) (fits : WellFormed m) (u : ℕ) (l : u < m.places) where
  -- with the labels after the roads out of u as code has them, and a label for each place
  pub expand_is : (base : MapModel) (table : Table K) (empty : Bool) (c : K) (labels : List (Label K)) → length labels ≡ m.places →
      labels_view (start_at m) (driven_along thing leq plus price m c (leaving m u) labels) ≡
      search_spec.relax (ops_of thing leq plus nil blocked) ((given nil price m base table empty).price u) u c 0 (labels_view (start_at m) labels)
  expand_is base table empty c labels sized =
      ap (λ rs. labels_view (start_at m) (driven_along thing leq plus price m c rs labels)) (leaving_is m u l)
      ∙ sym (along_view thing leq plus nil blocked price (start_at m) m u c (m.departures u) (from_there m fits u l) labels)
      ∙ along_rows.relax_out thing leq order plus nil blocked price code laws m base fits table empty u l c (labels_view (start_at m) labels) (view_length (start_at m) labels ∙ sized)
