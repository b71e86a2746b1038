-- A step of the search is a turn.
use Rattle.std.proofs.Common.{◌≡◌, ℕ, suc, ◌+◌, ◌<◌, Bool, true, false, not, ◌||◌, eqb, ◌⊎◌, sym, refl, ap, ◌∙◌, subst, inl, inr, ⊎_elim, zero-add, arith, length-set, eq-eqb, eqb-true}
use mathlib.Core.Bool.{false≢true}
use mathlib.Core.Option.{Option, some, none}
use borrow.Author.Tests.{not-true, both_ways}
use Rattle.std.proofs.lemmas.Bool.{and_parts, and_from, or_cases, cases_lt}
use Rattle.std.proofs.lemmas.List.{get_or-set_same, get_or-set_other, get_or_past}
use Rattle.routes.specs.Costs.{Costs}
use Rattle.routes.specs.Walks.{Roads, Way}
use Rattle.routes.specs.Worlds.{Lawful, Own}
use Rattle.routes.specs.States.{From, Label, Blank, Reached, Settled, Side, State, Has, IsSettled}
use Rattle.routes.specs.Turns.{Settles, Gates, Relaxes, Leaves, Expands, Shortcut, Picks, Settling, Turn}
use Rattle.routes.specs.Scales.{Scale, ops}
use Rattle.routes.specs.Search.{Given, Half, Both, Found, label_at, side, view, own, gate_after, settle, unsettled}
use Rattle.routes.specs.Search
use Rattle.routes.specs.Asked.{world, Paired, Sized, Fit}
use Rattle.routes.proofs.Parts
use Rattle.routes.proofs.Gate.{none_some, some_one}

gate_known : {K : Type 0} (o : Option K) (b : Bool) (c g : K) → o ≡ some g → gate_after o b c ≡ some g
gate_known (some k) b c g e = e
gate_known none b c g e = absurd (none_some {K = _} none g refl e)

gate_fresh : {K : Type 0} (o : Option K) (b : Bool) (c : K) → o ≡ none → ((b ≡ true) × (gate_after o b c ≡ some c)) ⊎ ((b ≡ false) × (gate_after o b c ≡ none))
gate_fresh (some k) b c e = absurd (none_some (some k) k e refl)
gate_fresh none true c e = inl (refl, refl)
gate_fresh none false c e = inr (refl, refl)

is_unsettled : {K : Type 0} (l : Label K) → unsettled l ≡ true → (d : K) → IsSettled l d → ⊥
is_unsettled Blank e d k = k
is_unsettled (Reached c o) e d k = k
is_unsettled (Settled c o) e d k = false≢true e

module _ (C : Costs) (S : Scale C) where
  open C use {Cost, ◌≼◌, ◌⊕◌, blocked, ≼_refl, ≼_trans}

  infix 40 ◌≼◌
  infixl 65 ◌⊕◌
  open S use {leq, leq_true, leq_false}

  -- pruning
  dear_cases : (a b : Option Cost) (l : Label Cost) (c low : Cost) → Search.too_dear (ops C S) a b l c low ≡ true →
      (g : Cost) × (k : Cost) × (a ≡ some g) × (b ≡ some k) × ((d : Cost) → IsSettled l d → ⊥) × ((blocked ≼ c ⊕ k) ⊎ (c ⊕ k ≼ low → ⊥))
  dear_cases none b l c low e = absurd (false≢true e)
  dear_cases (some g) none l c low e = absurd (false≢true e)
  dear_cases (some g) (some k) l c low e =
      let p = and_parts (unsettled l) (leq blocked (c ⊕ k) || not (leq (c ⊕ k) low)) e in (
        g,
        k,
        refl,
        refl,
        is_unsettled l p.0,
        ⊎_elim (λ t. inl (leq_true _ _ t)) (λ t. inr (leq_false _ _ (not-true _ t))) (or_cases _ _ p.1),
      )

  -- the upper bound
  through_cases : (l : Label Cost) (c upper : Cost) →
      (Search.through (ops C S) l c upper ≡ upper) ⊎ ((d : Cost) × IsSettled l d × (Search.through (ops C S) l c upper ≡ c ⊕ d) × (Search.through (ops C S) l c upper ≼ upper))
  through_cases Blank c upper = inl refl
  through_cases (Reached d o) c upper = inl refl
  through_cases (Settled d o) c upper = by (leq (c ⊕ d) upper) refl
    where
      by : (b : Bool) → leq (c ⊕ d) upper ≡ b →
          (elim b [ true ↦ c ⊕ d | false ↦ upper ] ≡ upper) ⊎ ((e : Cost) × (d ≡ e) × (elim b [ true ↦ c ⊕ d | false ↦ upper ] ≡ c ⊕ e) × (elim b [ true ↦ c ⊕ d | false ↦ upper ] ≼ upper))
      by true t = inr (d, refl, refl, leq_true _ _ t)
      by false t = inl refl

  module _ (E : Roads C) (σ σ' : Side Cost) (u : ℕ) (c : Cost) (v : ℕ) where
    -- relaxing at one place
    pub relax_cases : (o : Option Cost) → ((p : Cost) → o ≡ some p → E u v p) → ((p : Cost) → E u v p → o ≡ some p) → (l : Label Cost) → σ.label v ≡ l →
        σ'.label v ≡ Search.relaxed (ops C S) o u c l → Leaves C E σ σ' u c v ⊎ ((p : Cost) × Relaxes C E σ σ' u c v p)
    relax_cases none to from l e f = inl (record { fits = λ p r. absurd (none_some {K = Cost} none p refl (from p r)); is = f ∙ sym e })
    relax_cases (some p) to from Blank e f =
        inr (p, record { road = to p refl; unsettled = λ d k. subst (λ z. IsSettled z d) e k; less = λ d k. absurd (subst (λ z. Has z d) e k); is = f })
    relax_cases (some p) to from (Settled d o) e f =
        inl (record { fits = λ q r. (d, inl (subst (λ z. IsSettled z d) (sym e) refl)); is = f ∙ sym e })
    relax_cases (some p) to from (Reached d o) e f = by (leq d (c ⊕ p)) refl f
      where
        by : (b : Bool) → leq d (c ⊕ p) ≡ b → σ'.label v ≡ elim b [ true ↦ Reached d o | false ↦ Reached (c ⊕ p) (From u) ] →
            Leaves C E σ σ' u c v ⊎ ((q : Cost) × Relaxes C E σ σ' u c v q)
        by true t g = inl (record {
          fits = λ q r. (d, inr (subst (λ z. Has z d) (sym e) refl, subst (λ z. d ≼ c ⊕ z) (some_one (some p) p q refl (from q r)) (leq_true _ _ t)));
          is = g ∙ sym e;
        })
        by false t g = inr (
          p,
          record {
            road = to p refl;
            unsettled = λ a k. subst (λ z. IsSettled z a) e k;
            less = λ a k. subst (λ z. c ⊕ p ≼ z) (subst (λ z. Has z a) e k) (Parts.leq_over C S d (c ⊕ p) t);
            is = g;
          },
        )

  module _ (G : Given Cost) (B : Roads C) (L : Lawful C (world C G B)) (paired : Paired C G) (s t : ℕ) (x : Both Cost) (fit : Fit G.size x)
      (f : Found Cost) (near : Parts.Nearest C S 0 x.fore.labels f) where
    place_is : f.place ≡ near.at
    place_is = near.place_is ∙ zero-add near.at

    in_range : f.place < G.size
    in_range = omega (arith, place_is, near.in_range, fit.fore.labels)

    settles : Settles C (side x.fore) (side (settle G s x.fore f)) f.place f.cost f.origin
    settles = record {
      was = subst (λ z. label_at x.fore.labels z ≡ Reached f.cost f.origin) (sym place_is) near.label_is;
      is = get_or-set_same x.fore.labels f.place _ Blank (omega (arith, in_range, fit.fore.labels));
      least = near.least;
      others = λ v n. get_or-set_other x.fore.labels f.place v _ Blank n;
      unexpanded = get_or-set_same x.fore.expands f.place false false (omega (arith, in_range, fit.fore.expands));
      same = λ v n. get_or-set_other x.fore.expands f.place v false false n;
    }

    gates : Gates C (Own C (world C G B) s) (side x.fore) (side (settle G s x.fore f)) f.place f.cost
    gates = record {
      known = λ g e. gate_known x.fore.gate (own G s f.place) f.cost g e;
      fresh = λ e. ⊎_elim
          (λ h. let p = and_parts _ _ h.0 in inl ((p.0, eqb-true _ _ p.1), h.1))
          (λ h. inr (λ o. both_ways _ h.0 (and_from _ _ o.0 (eq-eqb _ _ o.1)), h.1))
          (gate_fresh x.fore.gate (own G s f.place) f.cost e);
    }

    abbrev entry : Cost
    entry = G.entry (G.district f.place) (G.district t)

    shortcut : Shortcut C (λ u v p. G.price u v ≡ some p) entry (side x.back) f.place f.cost x.upper (Search.low_after (ops C S) G t x f)
    shortcut = by (G.pair (G.district f.place) (G.district t)) refl
      where
        by : (o : Option (ℕ × ℕ)) → G.pair (G.district f.place) (G.district t) ≡ o →
            Shortcut C (λ u v p. G.price u v ≡ some p) entry (side x.back) f.place f.cost x.upper (Search.lowered (ops C S) o f.place (f.cost ⊕ entry) x.back.labels x.upper)
        by none e = inl refl
        by (some p) e = at (eqb p.0 f.place) refl
          where
            at : (b : Bool) → eqb p.0 f.place ≡ b →
                Shortcut C (λ u v p. G.price u v ≡ some p) entry (side x.back) f.place f.cost x.upper
                (elim b [ true ↦ Search.through (ops C S) (label_at x.back.labels p.1) (f.cost ⊕ entry) x.upper | false ↦ x.upper ])
            at true h = ⊎_elim inl
                (λ k. inr (p.1, k.0, subst (λ z. Way C (λ u v p. G.price u v ≡ some p) z p.1 entry) (eqb-true _ _ h) (paired _ _ p.0 p.1 e), k.1, k.2, k.3))
                (through_cases (label_at x.back.labels p.1) (f.cost ⊕ entry) x.upper)
            at false h = inl refl

    settling : (x' : State Cost) → x'.back ≡ side x.back →
        Settling C (world C G B) s t (view x) x' f.place f.cost (side (settle G s x.fore f)) (Search.low_after (ops C S) G t x f)
    settling x' e = record { origin = f.origin; settles = settles; gates = gates; shortcut = shortcut; back_same = e }

    abbrev mid : Half Cost
    mid = settle G s x.fore f

    mid_sized : Sized G.size mid
    mid_sized = record { labels = length-set _ _ _ ∙ fit.fore.labels; expands = length-set _ _ _ ∙ fit.fore.expands }

    expands : Expands C (λ u v p. G.price u v ≡ some p) (side mid) (side (Search.expanded (ops C S) G mid f)) f.place f.cost
    expands = record { labels = labels; expanded_now = get_or-set_same mid.expands f.place true false (omega (arith, in_range, mid_sized.expands)); same = λ v n. get_or-set_other mid.expands f.place v true false n; gate_same = refl }
      where
        labels : (v : ℕ) → Leaves C (λ u v p. G.price u v ≡ some p) (side mid) (side (Search.expanded (ops C S) G mid f)) f.place f.cost v
            ⊎ ((p : Cost) × Relaxes C (λ u v p. G.price u v ≡ some p) (side mid) (side (Search.expanded (ops C S) G mid f)) f.place f.cost v p)
        labels v = ⊎_elim
            (λ l. relax_cases (λ u v p. G.price u v ≡ some p) (side mid) (side (Search.expanded (ops C S) G mid f)) f.place f.cost v
            (G.price f.place v) (λ p e. e) (λ p e. e) (label_at mid.labels v) refl
            (Parts.relax_at C S (G.price f.place) f.place f.cost 0 mid.labels v (omega (arith, l, mid_sized.labels))
            ∙ ap (λ z. Search.relaxed (ops C S) (G.price f.place z) f.place f.cost (label_at mid.labels v)) (zero-add v)))
            (λ l. inl (record {
              fits = λ p r. absurd (omega (arith, l, (L.inside f.place v p r).1));
              is = get_or_past _ v Blank (omega (arith, l, mid_sized.labels, Parts.relax_length C S (G.price f.place) f.place f.cost 0 mid.labels))
                  ∙ sym (get_or_past mid.labels v Blank (omega (arith, l, mid_sized.labels)));
            }))
            (cases_lt v G.size)

    abbrev after : Half Cost
    after = Search.expanded (ops C S) G mid f

    abbrev low : Cost
    low = Search.low_after (ops C S) G t x f

    -- what the least sum does to best and the upper bound
    expanded_turn : (best' upper' : Cost) (meet' : ℕ) →
        Picks C (λ u v p. G.price u v ≡ some p) (side after) (side x.back) f.place x.meet meet' x.best best' low upper' →
        Turn C (world C G B) s t (view x) (record { fore = side after; back = side x.back; best = best'; upper = upper'; meet = meet' })
    expanded_turn best' upper' meet' p =
        inr (record { u = f.place; c = f.cost; mid = side mid; low = low; settling = settling _ refl; expands = expands; picks = p })

    abbrev SumOf : Option (Found Cost) → Type 0
    SumOf o = Parts.SumOk C S (G.price f.place) 0 after.labels x.back.labels o

    kept_turn : ((v : ℕ) (p a b : Cost) → G.price f.place v ≡ some p → Has (label_at after.labels v) a → Has (label_at x.back.labels v) b → x.best ≼ a ⊕ b) →
        Turn C (world C G B) s t (view x) (record { fore = side after; back = side x.back; best = x.best; upper = low; meet = x.meet })
    kept_turn h = expanded_turn x.best low x.meet (record { less = ≼_refl _; each = h; made = inl (refl, refl); falls = ≼_refl _; upper_is = inl refl })

    -- a sum speaks of place 0 + v
    at_place : (v : ℕ) (p : Cost) → G.price f.place v ≡ some p → G.price f.place (0 + v) ≡ some p
    at_place v p e = subst (λ z. G.price f.place z ≡ some p) (sym (zero-add v)) e

    taken_turn : (o : Option (Found Cost)) → SumOf o → Turn C (world C G B) s t (view x) (view (Search.taken (ops C S) o after x low))
    taken_turn none h = kept_turn (λ v p a b e i j. absurd (h v p a b (at_place v p e) i j))
    taken_turn (some k) h = by (leq x.best k.cost) refl
      where
        here : k.place ≡ h.at
        here = h.place_is ∙ zero-add h.at

        new : (c : Bool) → leq low k.cost ≡ c → leq x.best k.cost ≡ false →
            Turn C (world C G B) s t (view x) (record { fore = side after; back = side x.back; best = k.cost; upper = elim c [ true ↦ low | false ↦ k.cost ]; meet = k.place })
        new c e n = expanded_turn k.cost (elim c [ true ↦ low | false ↦ k.cost ]) k.place (record {
          less = Parts.leq_over C S _ _ n;
          each = λ v p a b q i j. h.least v p a b (at_place v p q) i j;
          made = inr (h.mine, h.theirs, subst (λ z. Has (label_at after.labels z) h.mine) (sym here) h.has_mine, subst (λ z. Has (label_at x.back.labels z) h.theirs) (sym here) h.has_theirs, h.cost_is);
          falls = falls c e;
          upper_is = which c;
        })
          where
            falls : (c : Bool) → leq low k.cost ≡ c → elim c [ true ↦ low | false ↦ k.cost ] ≼ low
            falls true e = ≼_refl low
            falls false e = Parts.leq_over C S _ _ e

            which : (c : Bool) → (elim c [ true ↦ low | false ↦ k.cost ] ≡ low) ⊎ (elim c [ true ↦ low | false ↦ k.cost ] ≡ k.cost)
            which true = inl refl
            which false = inr refl

        by : (b : Bool) → leq x.best k.cost ≡ b → Turn C (world C G B) s t (view x) (view (elim b [
          | true ↦ record { fore = after; back = x.back; best = x.best; upper = low; meet = x.meet; expansions = suc x.expansions; prunings = x.prunings }
          | false ↦ record { fore = after; back = x.back; best = k.cost; upper = Search.least_of (ops C S) low k.cost; meet = k.place; expansions = suc x.expansions; prunings = x.prunings }
        ]))
        by true e = kept_turn (λ v p a b q i j. ≼_trans _ _ _ (leq_true _ _ e) (h.least v p a b (at_place v p q) i j))
        by false e = new (leq low k.cost) refl e

    -- the step is a turn
    pub step_turn : Turn C (world C G B) s t (view x) (view (Search.step (ops C S) G s t x f))
    step_turn = by (Search.too_dear (ops C S) mid.gate x.back.gate (label_at x.back.labels f.place) (f.cost ⊕ entry) low) refl
      where
        by : (b : Bool) → Search.too_dear (ops C S) mid.gate x.back.gate (label_at x.back.labels f.place) (f.cost ⊕ entry) low ≡ b →
            Turn C (world C G B) s t (view x) (view (elim b [
              | true ↦ record { fore = mid; back = x.back; best = x.best; upper = low; meet = x.meet; expansions = x.expansions; prunings = suc x.prunings }
              | false ↦ Search.taken (ops C S) (Search.sums (ops C S) (G.price f.place) 0 after.labels x.back.labels) after x low
            ]))
        by true e =
            let d = dear_cases mid.gate x.back.gate (label_at x.back.labels f.place) (f.cost ⊕ entry) low e in
            inl (record {
              u = f.place;
              c = f.cost;
              settling = settling _ refl;
              prunes = record { gate = d.0; other = d.1; gate_is = d.2; other_is = d.3; unsettled = d.4; dear = d.5 };
              best_same = refl;
              meet_same = refl;
            })
        by false e = taken_turn (Search.sums (ops C S) (G.price f.place) 0 after.labels x.back.labels) (Parts.sums_ok C S (G.price f.place) 0 after.labels x.back.labels)

    after_sized : Sized G.size after
    after_sized = record { labels = Parts.relax_length C S _ _ _ 0 mid.labels ∙ mid_sized.labels; expands = length-set _ _ _ ∙ mid_sized.expands }

    taken_fit : (o : Option (Found Cost)) → Fit G.size (Search.taken (ops C S) o after x low)
    taken_fit none = record { fore = after_sized; back = fit.back }
    taken_fit (some k) = by (leq x.best k.cost)
      where
        by : (b : Bool) → Fit G.size (elim b [
          | true ↦ record { fore = after; back = x.back; best = x.best; upper = low; meet = x.meet; expansions = suc x.expansions; prunings = x.prunings }
          | false ↦ record { fore = after; back = x.back; best = k.cost; upper = Search.least_of (ops C S) low k.cost; meet = k.place; expansions = suc x.expansions; prunings = x.prunings }
        ])
        by true = record { fore = after_sized; back = fit.back }
        by false = record { fore = after_sized; back = fit.back }

    pub step_fit : Fit G.size (Search.step (ops C S) G s t x f)
    step_fit = by (Search.too_dear (ops C S) mid.gate x.back.gate (label_at x.back.labels f.place) (f.cost ⊕ entry) low)
      where
        by : (b : Bool) → Fit G.size (elim b [
          | true ↦ record { fore = mid; back = x.back; best = x.best; upper = low; meet = x.meet; expansions = x.expansions; prunings = suc x.prunings }
          | false ↦ Search.taken (ops C S) (Search.sums (ops C S) (G.price f.place) 0 after.labels x.back.labels) after x low
        ])
        by true = record { fore = mid_sized; back = fit.back }
        by false = taken_fit (Search.sums (ops C S) (G.price f.place) 0 after.labels x.back.labels)
