-- What a spread keeps, turn by turn, on the labels of code.
use Rattle.std.proofs.Common.{◌≡◌, ℕ, ◌+◌, ◌<◌, ◌≤◌, Bool, List, length, None, Option, sym, refl, ap, ◌∙◌, subst, ⊎_elim, arith}
use mathlib.Core.Option.{none}
use Rattle.std.proofs.lemmas.List.{get_or_past}
use Rattle.std.proofs.lemmas.Bool.{cases_lt, cases_Bool, cond-true, cond-false, cond_both}
use Rattle.fringe.specs.declared.place.Place.{Place}
use Rattle.fringe.specs.Orders.{TotalOrder}
use Rattle.map.specs.Model.{MapModel, WellFormed, Inhabits, leaving, is_in}
use Rattle.measure.specs.Costs.{CostLaws}
use Rattle.routes.specs.declared.labels.Origin.TheVariants as source
use Rattle.routes.specs.declared.labels.Label.{Label as Mark}
use Rattle.routes.specs.declared.labels.Label.TheVariants as mark
use Rattle.routes.specs.States.{Start, Label, Blank, Reached}
use Rattle.routes.specs.Costs.{Costs}
use Rattle.routes.specs.Scales.{Scale}
use Rattle.routes.specs.Kept.{weight, tally}
use Rattle.routes.specs.Labels.{start_at, origin_view, label_view, labels_view}
use Rattle.routes.specs.Search.{Found, label_at}
use Rattle.routes.specs.Rows.{relax_row}
use Rattle.routes.specs.Asking.{open_roads}
use Rattle.routes.proofs.LabelViews.{view_length, view_at}
use Rattle.routes.proofs.Linked as linked
use Rattle.routes.proofs.Parts as parts
use Rattle.routes.proofs.Sweep as sweep
use Rattle.routes.proofs.Preparing as preparing
use Rattle.halves.specs.Labels.{spot}
use Rattle.routes.specs.Parts.{waiting}
use Rattle.halves.specs.Settling.{Settles}
use Rattle.halves.specs.Expansions.{driven_along}
use Rattle.halves.proofs.NearestIs as nearest
use Rattle.preparing.specs.Beginnings.{Sown}
use Rattle.preparing.specs.Firsts.{first_at, noted}
use Rattle.preparing.specs.Runs.{Runs, begun, turned, Ran}
use Rattle.preparing.proofs.Homes.{of_is, is_home}
use Rattle.preparing.proofs.Notes.{noted_firsts, elsewhere, noted_length}
use Rattle.preparing.proofs.Counts.{count, count_none, count_more, tally_none, tally_full}
use Rattle.preparing.proofs.Driving.{expand_seen}

module _ {K T : Type 0} (thing : K → T) (leq : T → T → Bool) (order : TotalOrder leq)
    (plus : K → K → K) (nil blocked : K) (price : ℕ → ℕ → K) (code : K → ℕ) (laws : CostLaws thing leq plus nil blocked price code)
    (m : MapModel) (fits : WellFormed m) (d : ℕ) where
  abbrev C : Costs
  C = linked.costs thing leq order plus nil blocked price code laws

  abbrev S : Scale C
  S = linked.scale thing leq order plus nil blocked price code laws

  abbrev pub seen : List (Mark K) → List (Label K)
  seen labels = labels_view (start_at m) labels

  abbrev pub Swept : List (Mark K) → List (Option Place) → Type 0
  Swept labels firsts = preparing.Swept thing leq order plus nil blocked price code laws m fits d (seen labels) (first_at firsts)

  pub record Keeps (n : ℕ) (labels : List (Mark K)) (firsts : List (Option Place)) : Type 0 where
    pub sized : length labels ≡ m.places
    pub wide : length firsts ≡ 64
    pub swept : Swept labels firsts
    pub tallied : tally (label_at (seen labels)) m.places ≡ n
    pub counted : count (first_at firsts) m.districts ≤ n

  -- the beginning
  module _ (labels : List (Mark K)) (sown : Sown m d nil m.places labels) where
    begins_at : (v : ℕ) → Inhabits m d v → label_at (seen labels) v ≡ Reached nil Start
    begins_at v h = view_at (start_at m) labels v
        ∙ ap (label_view (start_at m)) (sown.each v h.known ∙ cond-true (is_in m d v) (mark.Reached nil source.Start) mark.Blank (of_is m d v h))

    blank_at : (v : ℕ) → (Inhabits m d v → ⊥) → label_at (seen labels) v ≡ Blank
    blank_at v n = view_at (start_at m) labels v ∙ ap (label_view (start_at m)) (⊎_elim
        (λ l. sown.each v l ∙ ⊎_elim (λ t. absurd (n (is_home m d v t))) (λ f. cond-false (is_in m d v) (mark.Reached nil source.Start) mark.Blank f) (cases_Bool (is_in m d v)))
        (λ l. get_or_past labels v mark.Blank (omega (arith, l, sown.sized)))
        (cases_lt v m.places))

    unsettled_at : (v : ℕ) → v < m.places → weight (label_at (seen labels) v) ≡ 0
    unsettled_at v l = ap weight (view_at (start_at m) labels v ∙ ap (label_view (start_at m)) (sown.each v l))
        ∙ cond_both (is_in m d v) (mark.Reached nil source.Start) mark.Blank (λ x. weight (label_view (start_at m) x) ≡ 0) (λ _. refl) (λ _. refl)

    keeps_begun : (firsts : List (Option Place)) → length firsts ≡ 64 → ((j : ℕ) → first_at firsts j ≡ none) → Keeps 0 labels firsts
    keeps_begun firsts w n = record {
      sized = sown.sized;
      wide = w;
      swept = preparing.begins thing leq order plus nil blocked price code laws m fits d (seen labels) (first_at firsts) begins_at blank_at n;
      tallied = tally_none (label_at (seen labels)) m.places unsettled_at;
      counted = omega (arith, count_none (first_at firsts) m.districts n);
    }

  -- a turn
  module _ {n : ℕ} {before mid : List (Mark K)} {firsts : List (Option Place)} (k : Keeps n before firsts) (p : Place) (c : K) (s : Settles thing leq before mid p.0 c) where
    abbrev found : Found K
    found = record { place = p.0; cost = c; origin = origin_view (start_at m) s.origin }

    near : parts.Nearest C S 0 (seen before) found
    near = sweep.near C S (seen before) found (nearest.nearest_is thing leq order plus nil blocked price code laws (start_at m) before mid p.0 c s)

    view_sized : length (seen before) ≡ m.places
    view_sized = view_length (start_at m) before ∙ k.sized

    known : p.0 < m.places
    known = omega (arith, s.known, k.sized)

    abbrev after : List (Mark K)
    after = driven_along thing leq plus price m c (leaving m p.0) mid

    abbrev next : List (Label K)
    next = preparing.after thing leq order plus nil blocked price code laws m fits d (seen before) view_sized found near

    after_is : seen after ≡ next
    after_is = expand_seen thing leq plus nil blocked price m p.0 c fits known mid
        ∙ ap (λ z. relax_row (linked.operations thing leq order plus nil blocked price code laws) (open_roads price m p.0) p.0 c z)
        (nearest.settled_is thing leq order plus nil blocked price code laws (start_at m) before mid p.0 c s)

    room : m.district p.0 < length firsts
    room = omega (arith, fits.district_known p.0 known, fits.few_districts, k.wide)

    keeps_turned : Keeps (n + 1) after (noted m p firsts)
    keeps_turned = record {
      sized = sym (view_length (start_at m) after) ∙ ap length after_is ∙ preparing.sized_after thing leq order plus nil blocked price code laws m fits d (seen before) view_sized found near;
      wide = noted_length m p firsts ∙ k.wide;
      swept = subst (λ z. preparing.Swept thing leq order plus nil blocked price code laws m fits d z (first_at (noted m p firsts))) (sym after_is)
          (preparing.goes_on thing leq order plus nil blocked price code laws m fits d (seen before) view_sized found near (first_at firsts) (first_at (noted m p firsts)) (noted_firsts m p firsts known room) k.swept);
      tallied = ap (λ z. tally (label_at z) m.places) after_is
          ∙ omega (arith, preparing.counted thing leq order plus nil blocked price code laws m fits d (seen before) view_sized found near (first_at firsts) k.swept, k.tallied);
      counted = omega (arith, count_more (first_at firsts) (first_at (noted m p firsts)) (m.district p.0) m.districts (elsewhere m p firsts known room), k.counted);
    }

  module _ (labels₀ : List (Mark K)) (firsts₀ : List (Option Place)) (sown : Sown m d nil m.places labels₀) (wide : length firsts₀ ≡ 64) (empty : (j : ℕ) → first_at firsts₀ j ≡ none) where
    pub keeps : {n : ℕ} {labels : List (Mark K)} {firsts : List (Option Place)} → Runs thing leq plus price m labels₀ firsts₀ n labels firsts → Keeps n labels firsts
    keeps begun = keeps_begun labels₀ sown firsts₀ wide empty
    keeps (turned p c r s) = keeps_turned (keeps r) p c s

    -- the end: nothing is reached
    settled_rests : (l : Mark K) → weight (label_view (start_at m) l) ≡ 1 → waiting l ≡ None
    settled_rests mark.Blank e = absurd (omega (arith, e))
    settled_rests (mark.Reached c o) e = absurd (omega (arith, e))
    settled_rests (mark.Settled c o) e = refl

    pub at_rest : {n : ℕ} {labels : List (Mark K)} {firsts : List (Option Place)} → Ran thing leq plus price m labels₀ firsts₀ n labels firsts → (v : ℕ) → waiting (spot labels v) ≡ None
    at_rest {n} {labels} r v = let k = keeps r.runs in ⊎_elim
        (λ l. r.spent l v)
        (λ l. ⊎_elim
        (λ i. settled_rests (spot labels v) (ap weight (sym (view_at (start_at m) labels v))
        ∙ tally_full (label_at (seen labels)) m.places (omega (arith, k.tallied, l, r.few, sown.sized)) v i))
        (λ i. ap waiting (get_or_past labels v mark.Blank (omega (arith, i, k.sized))))
        (cases_lt v m.places))
        (cases_lt n (length labels₀))
