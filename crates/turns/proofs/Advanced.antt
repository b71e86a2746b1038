-- What a turn finds, once its place is settled, is what the step of the search finds.
use Rattle.std.proofs.Common.{◌≡◌, ℕ, suc, ◌+◌, ◌<◌, Bool, true, false, cond, List, get_or, Some, None, Option, sym, refl, ap, ◌∙◌, subst, ap₂, arith}
use mathlib.Core.Option.{none}
use Rattle.fringe.specs.declared.place.Place.{Place}
use Rattle.fringe.specs.Orders.{TotalOrder}
use Rattle.map.specs.Model.{MapModel, WellFormed, leaving}
use Rattle.measure.specs.Costs.{CostLaws}
use Rattle.routes.specs.declared.labels.Label.{Label}
use Rattle.routes.specs.declared.labels.Label.TheVariants.{Blank}
use Rattle.routes.specs.States.{Origin}
use Rattle.routes.specs.Labels.{start_at, label_view, labels_view}
use Rattle.routes.specs.Search.{Ops, ops_of, Given, Half, Both, Found, label_at}
use Rattle.routes.specs.Search as search_spec
use Rattle.routes.specs.Asking.{Table, given}
use Rattle.routes.proofs.LabelViews.{view_at}
use Rattle.routes.proofs.MapRoads as map_roads
use Rattle.halves.specs.Expansions.{driven_along}
use Rattle.halves.specs.Meetings.{best_along}
use Rattle.halves.specs.Views.{meeting_view}
use Rattle.halves.proofs.ExpandIs.{expand_is}
use Rattle.halves.proofs.MeetingIs.{meeting_is}
use Rattle.turns.specs.declared.findings.Findings.{Findings}
use Rattle.turns.specs.declared.findings.Between.{Between}
use Rattle.turns.specs.Options.{maybe}
use Rattle.turns.specs.Findings.{Shown}
use Rattle.turns.specs.Advances.{SettledAt}
use Rattle.turns.specs.Turnings.{one_more, pruned_by, opened_by, expanded_by, lesser_of}
use Rattle.table.specs.Views.{ends_of}

-- a count that is far from the end of its type
counts : (a b n : ℕ) → a + b < 1000000 → a ≡ n → suc a ≡ one_more n
counts a b n h e = omega (arith, h, e)

counts_other : (a b n : ℕ) → a + b < 1000000 → b ≡ n → suc b ≡ one_more n
counts_other a b n h e = omega (arith, h, e)

-- the lesser of two costs
lesser_is : {K T : Type 0} (thing : K → T) (leq : T → T → Bool) (plus : K → K → K) (nil blocked : K) (a b : K) →
    search_spec.least_of (ops_of thing leq plus nil blocked) a b ≡ lesser_of thing leq a b
lesser_is {K} thing leq plus nil blocked a b = by (leq (thing a) (thing b))
  where
    by : (z : Bool) → elim z as (λ _. K) [ true ↦ a | false ↦ b ] ≡ cond z a b
    by true = refl
    by false = refl

module _ {K T : Type 0} (thing : K → T) (leq : T → T → Bool) (order : TotalOrder leq)
    (plus : K → K → K) (nil blocked : K) (price : ℕ → ℕ → K) (code : K → ℕ) (laws : CostLaws thing leq plus nil blocked price code)
    (m : MapModel) (lawful : WellFormed m) (back_of : ℕ → ℕ) (mine theirs : List (Label K)) (found : Findings K)
    (u : ℕ) (c : K) (gate : Bool) (between : Between K) (G : Given K) (s t : ℕ) (x : Both K) (o : Origin)
    (a : SettledAt price m back_of mine theirs found u c gate between G s t x o) where
  abbrev O : Ops K
  O = ops_of thing leq plus nil blocked

  abbrev f : Found K
  f = record { place = u; cost = c; origin = o }

  abbrev h : Half K
  h = search_spec.settle G s x.fore f

  abbrev to : K
  to = plus c (G.entry (G.district u) (G.district t))

  abbrev low : K
  low = search_spec.low_after O G t x f

  abbrev drawn : List (Label K)
  drawn = driven_along thing leq plus price m c (leaving m u) mine

  abbrev met : Option (Place × K)
  met = best_along thing leq plus drawn theirs m (leaving m u) None

  -- the two ways on
  abbrev cut : Both K
  cut = record { fore = h; back = x.back; best = x.best; upper = low; meet = x.meet; expansions = x.expansions; prunings = suc x.prunings }

  abbrev wide : Both K
  wide = search_spec.taken O (search_spec.sums O (G.price u) 0 (search_spec.expanded O G h f).labels x.back.labels) (search_spec.expanded O G h f) x low

  abbrev judged : Bool
  judged = search_spec.too_dear O h.gate x.back.gate (label_at x.back.labels u) to low

  -- what code knows of the turn
  module _ (own : Option K) (own_is : maybe own ≡ search_spec.gate_after (maybe found.own_gate) gate c)
      (paid : K) (paid_is : paid ≡ plus c between.cost)
      (upper : K) (upper_is : upper ≡ search_spec.lowered O (ends_of between.pair) u paid (labels_view back_of theirs) found.upper)
      (label : Label K) (label_was : label ≡ get_or theirs u Blank) where
    abbrev dear : Bool
    dear = search_spec.too_dear O (maybe own) (maybe found.other_gate) (label_view back_of label) paid upper

    gate_is : h.gate ≡ maybe own
    gate_is = ap₂ (λ z b. search_spec.gate_after z b c) a.beside.gate (sym a.gate_is) ∙ sym own_is

    to_is : paid ≡ to
    to_is = paid_is ∙ ap (plus c) a.entry_is

    low_is : low ≡ upper
    low_is =
        ap₂ (λ p z. search_spec.lowered O p u z x.back.labels x.upper) (sym a.pair_is) (sym to_is)
        ∙ ap₂ (λ l z. search_spec.lowered O (ends_of between.pair) u paid l z) a.beside.others a.beside.upper
        ∙ sym upper_is

    label_is : label_at x.back.labels u ≡ label_view back_of label
    label_is = ap (λ l. label_at l u) a.beside.others ∙ view_at back_of theirs u ∙ ap (label_view back_of) (sym label_was)

    judged_is : judged ≡ dear
    judged_is =
        ap₂ (λ g k. search_spec.too_dear O g k (label_at x.back.labels u) to low) gate_is a.beside.other_gate
        ∙ ap₂ (λ l z. search_spec.too_dear O (maybe own) (maybe found.other_gate) l z low) label_is (sym to_is)
        ∙ ap (search_spec.too_dear O (maybe own) (maybe found.other_gate) (label_view back_of label) paid) low_is

    step_is : (b : Bool) → b ≡ dear → search_spec.step O G s t x f ≡ elim b as (λ _. Both K) [ true ↦ cut | false ↦ wide ]
    step_is b e = ap (λ z. elim z as (λ _. Both K) [ true ↦ cut | false ↦ wide ]) (judged_is ∙ sym e)

    shown_pruned : true ≡ dear → Shown (start_at m) back_of mine theirs (pruned_by found own upper) (search_spec.step O G s t x f)
    shown_pruned e = subst (Shown (start_at m) back_of mine theirs (pruned_by found own upper)) (sym (step_is true e)) (record {
      labels = sym a.labels;
      beside = record {
        gate = gate_is;
        others = a.beside.others;
        other_gate = a.beside.other_gate;
        best = a.beside.best;
        upper = low_is;
        meet = a.beside.meet;
        expansions = a.beside.expansions;
        prunings = counts_other x.expansions x.prunings found.pruned a.few a.beside.prunings;
      };
    })

    pub advanced_pruned : true ≡ dear → (r : Findings K) → r ≡ pruned_by found own upper → Shown (start_at m) back_of mine theirs r (search_spec.step O G s t x f)
    advanced_pruned e r is = subst (λ z. Shown (start_at m) back_of mine theirs z (search_spec.step O G s t x f)) (sym is) (shown_pruned e)

    roads_are : (base : MapModel) (table : Table K) (empty : Bool) → (given nil price m base table empty).price u ≡ G.price u
    roads_are base table empty = map_roads.price_out plus nil price m lawful u a.known ∙ sym (a.fits.roads u a.known)

    blank_table : Table K
    blank_table = record { prepared = λ _. false; entry = λ _ _. nil; pair = λ _ _. none }

    labels_are : (search_spec.expanded O G h f).labels ≡ labels_view (start_at m) drawn
    labels_are =
        ap (search_spec.relax O (G.price u) u c 0) (sym a.labels)
        ∙ ap (λ r. search_spec.relax O r u c 0 (labels_view (start_at m) mine)) (sym (roads_are m blank_table false))
        ∙ sym (expand_is thing leq order plus nil blocked price code laws m lawful u a.known m blank_table false c mine a.sized)

    met_is : search_spec.sums O (G.price u) 0 (search_spec.expanded O G h f).labels x.back.labels ≡ meeting_view met
    met_is =
        ap₂ (search_spec.sums O (G.price u) 0) labels_are a.beside.others
        ∙ ap (λ r. search_spec.sums O r 0 (labels_view (start_at m) drawn) (labels_view back_of theirs)) (sym (roads_are m blank_table false))
        ∙ sym (meeting_is thing leq order plus nil blocked price code laws m lawful u a.known m blank_table false (start_at m) back_of drawn theirs)

    -- what is taken of where the sides met
    abbrev kept : Both K
    kept = record { fore = search_spec.expanded O G h f; back = x.back; best = x.best; upper = low; meet = x.meet; expansions = suc x.expansions; prunings = x.prunings }

    kept_shown : Shown (start_at m) back_of drawn theirs (opened_by found own upper) kept
    kept_shown = record {
      labels = labels_are;
      beside = record {
        gate = gate_is;
        others = a.beside.others;
        other_gate = a.beside.other_gate;
        best = a.beside.best;
        upper = low_is;
        meet = a.beside.meet;
        expansions = counts x.expansions x.prunings found.expanded a.few a.beside.expansions;
        prunings = a.beside.prunings;
      };
    }

    taken_shown : (r : Option (Place × K)) → Shown (start_at m) back_of drawn theirs (expanded_by thing leq found own upper r) (search_spec.taken O (meeting_view r) (search_spec.expanded O G h f) x low)
    taken_shown None = kept_shown
    taken_shown (Some r) = subst
        (λ b. Shown (start_at m) back_of drawn theirs (expanded_by thing leq found own upper (Some r)) (elim b as (λ _. Both K) [ true ↦ kept | false ↦ better ]))
        (sym (ap (λ z. leq (thing z) (thing r.1)) a.beside.best)) (by (leq (thing found.best) (thing r.1)))
      where
        better : Both K
        better = record {
          fore = search_spec.expanded O G h f;
          back = x.back;
          best = r.1;
          upper = search_spec.least_of O low r.1;
          meet = r.0.0;
          expansions = suc x.expansions;
          prunings = x.prunings;
        }

        nearer : Findings K
        nearer = record {
          own_gate = own;
          other_gate = found.other_gate;
          best = r.1;
          upper = lesser_of thing leq upper r.1;
          meet = r.0;
          expanded = one_more found.expanded;
          pruned = found.pruned;
        }

        by : (b : Bool) → Shown (start_at m) back_of drawn theirs (cond b (opened_by found own upper) nearer) (elim b as (λ _. Both K) [ true ↦ kept | false ↦ better ])
        by true = kept_shown
        by false = record {
          labels = labels_are;
          beside = record {
            gate = gate_is;
            others = a.beside.others;
            other_gate = a.beside.other_gate;
            best = refl;
            upper = ap (λ z. search_spec.least_of O z r.1) low_is ∙ lesser_is thing leq plus nil blocked upper r.1;
            meet = refl;
            expansions = counts x.expansions x.prunings found.expanded a.few a.beside.expansions;
            prunings = a.beside.prunings;
          };
        }

    shown_expanded : false ≡ dear → Shown (start_at m) back_of drawn theirs (expanded_by thing leq found own upper met) (search_spec.step O G s t x f)
    shown_expanded e = subst (Shown (start_at m) back_of drawn theirs (expanded_by thing leq found own upper met))
        (sym (step_is false e ∙ ap (λ z. search_spec.taken O z (search_spec.expanded O G h f) x low) met_is)) (taken_shown met)

    pub advanced_expanded : false ≡ dear → (mine' : List (Label K)) → mine' ≡ drawn → (at : Option (Place × K)) → at ≡ best_along thing leq plus mine' theirs m (leaving m u) None →
        (r : Findings K) → r ≡ expanded_by thing leq found own upper at → Shown (start_at m) back_of mine' theirs r (search_spec.step O G s t x f)
    advanced_expanded e mine' mine_is at at_is r is =
        subst (λ z. Shown (start_at m) back_of mine' theirs z (search_spec.step O G s t x f))
        (sym (is ∙ ap (expanded_by thing leq found own upper) (at_is ∙ ap (λ l. best_along thing leq plus l theirs m (leaving m u) None) mine_is)))
        (subst (λ l. Shown (start_at m) back_of l theirs (expanded_by thing leq found own upper met) (search_spec.step O G s t x f)) (sym mine_is) (shown_expanded e))
