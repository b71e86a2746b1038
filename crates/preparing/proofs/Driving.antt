-- Relaxing as the labels of code do it comes to relaxing along the row of open roads.
use Rattle.std.proofs.Common.{◌≡◌, ℕ, suc, ◌<◌, Bool, true, false, cond, not, ltb, List, [], ◌∷◌, length, get_or, set, Some, None, Option, sym, refl, ap, ◌∙◌, arith}
use mathlib.Core.Option.{some}
use Rattle.std.proofs.lemmas.Bool.{cond-true, lt-ltb}
use Rattle.map.specs.declared.roads.Road.{Road}
use Rattle.map.specs.declared.roads.Mark.{Mark as Gate}
use Rattle.map.specs.declared.roads.Mark.TheVariants.{Open, Closed}
use Rattle.map.specs.Model.{MapModel, WellFormed, leaving}
use Rattle.routes.specs.declared.labels.Label.{Label as Mark}
use Rattle.routes.specs.declared.labels.Label.TheVariants as mark
use Rattle.routes.specs.States.{From, Label, Reached}
use Rattle.routes.specs.Search.{Ops, ops_of, relaxed}
use Rattle.routes.specs.Rows.{Row, relax_row}
use Rattle.routes.specs.Asking.{is_open, in_front, row_of, open_roads}
use Rattle.routes.specs.Labels.{start_at, label_view, labels_view}
use Rattle.routes.proofs.LabelViews.{start_at_is, view_at, view_set}
use Rattle.halves.specs.Labels.{spot, offered, offered_at}
use Rattle.halves.specs.Expansions.{driven, driven_along}

module _ {C T : Type 0} (thing : C → T) (leq : T → T → Bool) (plus : C → C → C) (nil blocked : C) (price : ℕ → ℕ → C) (m : MapModel) (u : ℕ) (c : C) where
  abbrev O : Ops C
  O = ops_of thing leq plus nil blocked

  abbrev seen : List (Mark C) → List (Label C)
  seen labels = labels_view (start_at m) labels

  -- one label
  offer_seen : (p : C) (r : ℕ) → start_at m r ≡ u → (l : Mark C) →
      label_view (start_at m) (offered thing leq (plus c p) (record { 0 = r }) l) ≡ relaxed O (some p) u c (label_view (start_at m) l)
  offer_seen p r e mark.Blank = ap (λ z. Reached (plus c p) (From z)) e
  offer_seen p r e (mark.Settled d o) = refl
  offer_seen p r e (mark.Reached d o) = by (leq (thing d) (thing (plus c p)))
    where
      by : (b : Bool) → label_view (start_at m) (cond (not b) (mark.Reached (plus c p) (Rattle.routes.specs.declared.labels.Origin.TheVariants.Road (record { 0 = r }))) (mark.Reached d o))
          ≡ elim b as (λ _. Label C) [ true ↦ label_view (start_at m) (mark.Reached d o) | false ↦ Reached (plus c p) (From u) ]
      by true = refl
      by false = ap (λ z. Reached (plus c p) (From z)) e

  -- one road
  drive_seen : (r : ℕ) → start_at m r ≡ u → (labels : List (Mark C)) (o : Option Road) (row : Row C) →
      relax_row O row u c (seen (driven thing leq plus price c (record { 0 = r }) o labels)) ≡ relax_row O (in_front price (λ x. x.end) o row) u c (seen labels)
  drive_seen r e labels None row = refl
  drive_seen r e labels (Some x) row = by x.mark
    where
      p : C
      p = price x.seconds x.steepness

      by : (k : Gate) → relax_row O row u c (seen (cond (is_open k) (offered_at thing leq (plus c (price x.seconds x.steepness)) (record { 0 = r }) x.end.0 labels) labels))
          ≡ relax_row O (cond (is_open k) ((x.end.0, price x.seconds x.steepness) ∷ row) row) u c (seen labels)
      by Closed = refl
      by Open = ap (relax_row O row u c)
          (view_set (start_at m) labels x.end.0 _
          ∙ ap (set (seen labels) x.end.0) (offer_seen (price x.seconds x.steepness) r e (spot labels x.end.0) ∙ ap (relaxed O (some (price x.seconds x.steepness)) u c) (sym (view_at (start_at m) labels x.end.0))))

  -- the roads of these numbers, which all start at u
  along_seen : (rs : List ℕ) → ((k : ℕ) → k < length rs → start_at m (get_or rs k 0) ≡ u) → (labels : List (Mark C)) →
      seen (driven_along thing leq plus price m c rs labels) ≡ relax_row O (row_of price (λ x. x.end) m rs) u c (seen labels)
  along_seen [] h labels = refl
  along_seen (r ∷ rs) h labels =
      along_seen rs (λ k l. h (suc k) (omega (arith, l))) (driven thing leq plus price c (record { 0 = r }) (m.road r) labels)
      ∙ drive_seen r (h 0 (omega arith)) labels (m.road r) (row_of price (λ x. x.end) m rs)

  -- all roads out of u
  pub expand_seen : WellFormed m → u < m.places → (labels : List (Mark C)) →
      seen (driven_along thing leq plus price m c (leaving m u) labels) ≡ relax_row O (open_roads price m u) u c (seen labels)
  expand_seen fits l labels =
      ap (λ rs. seen (driven_along thing leq plus price m c rs labels)) (cond-true (ltb u m.places) (m.departures u) [] (lt-ltb u m.places l))
      ∙ along_seen (m.departures u) (λ k i. let t = (fits.departs u l).only k i in start_at_is m _ t.is t.there ∙ t.touches) labels
