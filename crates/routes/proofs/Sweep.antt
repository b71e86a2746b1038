-- Settling the nearest place of a list of labels and relaxing its roads is a turn of a spread.
use Rattle.std.proofs.Common.{◌≡◌, ℕ, zero, suc, ◌<◌, ◌≤◌, Bool, true, false, ◌⊎◌, List, length, set, sym, refl, ap, ◌∙◌, subst, inl, ⊎_elim, true≢false, zero-add, arith, length-set}
use mathlib.Core.Option.{Option as Maybe, some, none}
use Rattle.std.proofs.lemmas.Bool.{cases_lt}
use Rattle.std.proofs.lemmas.List.{get_or-set_same, get_or-set_other, get_or_past}
use Rattle.routes.specs.Costs.{Costs}
use Rattle.routes.specs.Walks.{Roads}
use Rattle.routes.specs.States.{Origin, Start, From, Label, Blank, Reached, Settled, Side, Has}
use Rattle.routes.specs.Routes.{Holds, Rooted}
use Rattle.routes.specs.Turns.{Settles, Leaves, Relaxes, Expands}
use Rattle.routes.specs.Kept.{tally, One}
use Rattle.routes.specs.Spreads.{Stems, here, on, Firsts, Spreads, Ended}
use Rattle.routes.specs.Scales.{Scale, ops}
use Rattle.routes.specs.Search.{Found, label_at}
use Rattle.routes.specs.Search
use Rattle.routes.specs.Sweeps.{is_settled, swept_side, root, sweep_on}
use Rattle.routes.proofs.Parts
use Rattle.routes.proofs.Step
use Rattle.routes.proofs.Settle
use Rattle.routes.proofs.Expand
use Rattle.routes.proofs.Tally
use Rattle.routes.proofs.Whole

module _ (C : Costs) (S : Scale C) where
  open C use {Cost, ◌≼◌, ◌⊕◌, free}

  infix 40 ◌≼◌
  infixl 65 ◌⊕◌
  open S use {leq}

  -- a relaxed label is settled if it was
  relaxed_settled : (o : Maybe Cost) (u : ℕ) (c d : Cost) (q : Origin) → Search.relaxed (ops C S) o u c (Settled d q) ≡ Settled d q
  relaxed_settled none u c d q = refl
  relaxed_settled (some p) u c d q = refl

  relaxed_same : (o : Maybe Cost) (u : ℕ) (c : Cost) (l : Label Cost) → is_settled (Search.relaxed (ops C S) o u c l) ≡ is_settled l
  relaxed_same none u c l = refl
  relaxed_same (some p) u c Blank = refl
  relaxed_same (some p) u c (Settled d q) = refl
  relaxed_same (some p) u c (Reached d q) = by (leq d (c ⊕ p))
    where
      by : (b : Bool) → is_settled (elim b [ true ↦ Reached d q | false ↦ Reached (c ⊕ p) (From u) ]) ≡ false
      by true = refl
      by false = refl

  module _ (r : ℕ → Maybe Cost) (u : ℕ) (c : Cost) (l : List (Label Cost)) where
    relaxed_at : (v : ℕ) → v < length l → label_at (Search.relax (ops C S) r u c 0 l) v ≡ Search.relaxed (ops C S) (r v) u c (label_at l v)
    relaxed_at v h = Parts.relax_at C S r u c 0 l v h ∙ ap (λ z. Search.relaxed (ops C S) (r z) u c (label_at l v)) (zero-add v)

    relaxed_past : (v : ℕ) → length l ≤ v → label_at (Search.relax (ops C S) r u c 0 l) v ≡ label_at l v
    relaxed_past v h = get_or_past _ v Blank (omega (arith, h, Parts.relax_length C S r u c 0 l)) ∙ sym (get_or_past l v Blank h)

    settled_same : (v : ℕ) → is_settled (label_at (Search.relax (ops C S) r u c 0 l) v) ≡ is_settled (label_at l v)
    settled_same v = ⊎_elim (λ h. ap is_settled (relaxed_at v h) ∙ relaxed_same (r v) u c (label_at l v)) (λ h. ap is_settled (relaxed_past v h)) (cases_lt v (length l))

    -- a settled label stays
    pub settled_stays : (v : ℕ) (d : Cost) (q : Origin) → label_at l v ≡ Settled d q → label_at (Search.relax (ops C S) r u c 0 l) v ≡ Settled d q
    settled_stays v d q e = ⊎_elim (λ h. relaxed_at v h ∙ ap (Search.relaxed (ops C S) (r v) u c) e ∙ relaxed_settled (r v) u c d q) (λ h. relaxed_past v h ∙ e) (cases_lt v (length l))

  -- where nothing is reached the spread has ended
  pub ended : (E : Roads C) (district : ℕ → ℕ) (first : ℕ → Maybe ℕ) (l : List (Label Cost)) → Search.nearest (ops C S) 0 l ≡ none →
      Ended C E district (record { side = swept_side l; first = first })
  ended E district first l n = subst (Parts.NearestOk C S 0 l) n (Parts.nearest_ok C S 0 l)

  pub near : (l : List (Label Cost)) (f : Found Cost) → Search.nearest (ops C S) 0 l ≡ some f → Parts.Nearest C S 0 l f
  near l f e = subst (Parts.NearestOk C S 0 l) e (Parts.nearest_ok C S 0 l)

  -- one turn: r has the prices of the roads out of the nearest place
  module _ (E : Roads C) (size : ℕ) (inside : (u v : ℕ) (p : Cost) → E u v p → v < size)
      (l : List (Label Cost)) (sized : length l ≡ size) (f : Found Cost) (near : Parts.Nearest C S 0 l f)
      (r : ℕ → Maybe Cost) (to : (v : ℕ) (p : Cost) → r v ≡ some p → E f.place v p) (from : (v : ℕ) (p : Cost) → E f.place v p → r v ≡ some p) where
    place_is : f.place ≡ near.at
    place_is = near.place_is ∙ zero-add near.at

    in_range : f.place < length l
    in_range = omega (arith, place_is, near.in_range)

    abbrev settled : List (Label Cost)
    settled = set l f.place (Settled f.cost f.origin)

    abbrev mid : Side Cost
    mid = record { label = label_at settled; expanded = λ v. is_settled (label_at l v); gate = none }

    abbrev after : List (Label Cost)
    after = sweep_on (ops C S) r l f

    pub was : label_at l f.place ≡ Reached f.cost f.origin
    was = subst (λ z. label_at l z ≡ Reached f.cost f.origin) (sym place_is) near.label_is

    settles : Settles C (swept_side l) mid f.place f.cost f.origin
    settles = record {
      was = was;
      is = get_or-set_same l f.place _ Blank in_range;
      least = near.least;
      others = λ v n. get_or-set_other l f.place v _ Blank n;
      unexpanded = ap is_settled was;
      same = λ v n. refl;
    }

    pub settled_now : label_at after f.place ≡ Settled f.cost f.origin
    settled_now = settled_stays r f.place f.cost settled f.place f.cost f.origin settles.is

    expands : Expands C E mid (swept_side after) f.place f.cost
    expands = record { labels = labels; expanded_now = ap is_settled settled_now; same = same; gate_same = refl }
      where
        same : (v : ℕ) → (v ≡ f.place → ⊥) → is_settled (label_at after v) ≡ is_settled (label_at l v)
        same v n = settled_same r f.place f.cost settled v ∙ ap is_settled (settles.others v n)

        labels : (v : ℕ) → Leaves C E mid (swept_side after) f.place f.cost v ⊎ ((p : Cost) × Relaxes C E mid (swept_side after) f.place f.cost v p)
        labels v = ⊎_elim
            (λ h. Step.relax_cases C S E mid (swept_side after) f.place f.cost v (r v) (to v) (from v) (label_at settled v) refl
            (relaxed_at r f.place f.cost settled v h))
            (λ h. inl (record {
              fits = λ p e. absurd (omega (arith, h, sized, length-set l f.place (Settled f.cost f.origin), inside f.place v p e));
              is = relaxed_past r f.place f.cost settled v h;
            }))
            (cases_lt v (length settled))

    pub spreads : (district : ℕ → ℕ) (first first' : ℕ → Maybe ℕ) → Firsts district first first' f.place →
        Spreads C E district (record { side = swept_side l; first = first }) (record { side = swept_side after; first = first' })
    spreads district first first' h = record { u = f.place; c = f.cost; origin = f.origin; mid = mid; settles = settles; expands = expands; firsts = h }

    pub sized_on : length after ≡ size
    sized_on = Parts.relax_length C S _ _ _ 0 settled ∙ length-set _ _ _ ∙ sized

    -- one place more is settled
    pub counted : (starts : ℕ → Type 0) (rank : ℕ → ℕ) → One C E size starts (swept_side l) rank → tally (label_at after) size ≡ suc (tally (label_at l) size)
    counted starts rank one =
        Expand.same_count C E mid (swept_side after) f.place f.cost expands size
        ∙ Settle.count C (swept_side l) mid f.place f.cost f.origin settles E size starts rank one

    -- a place settled before stays as it is
    pub stays : (v : ℕ) (d : Cost) (q : Origin) → label_at l v ≡ Settled d q → label_at after v ≡ Settled d q
    stays v d q e = settled_stays r f.place f.cost settled v d q (get_or-set_other l f.place v _ Blank other ∙ e)
      where
        other : v ≡ f.place → ⊥
        other h = true≢false (ap is_settled (sym e) ∙ ap (λ z. is_settled (label_at l z)) h ∙ ap is_settled was)

  -- the root that is computed
  root_stems : (E : Roads C) (starts : ℕ → Type 0) (l : List (Label Cost)) (rank : ℕ → ℕ) → Rooted C E starts (swept_side l) rank →
      (n v : ℕ) (c : Cost) → rank v < n → Has (label_at l v) c → Stems (swept_side l) v (root n l v)
  root_stems E starts l rank g zero v c h k = absurd (omega arith)
  root_stems E starts l rank g (suc n) v c h k = by (root_stems E starts l rank g n) (label_at l v) refl
    where
      more : ((u : ℕ) (d : Cost) → rank u < n → Has (label_at l u) d → Stems (swept_side l) u (root n l u)) →
          (o : Origin) (d : Cost) → Holds (label_at l v) d o → Stems (swept_side l) v (elim o [ Start ↦ v | From u ↦ root n l u ])
      more r Start d q = here d q
      more r (From u) d q = let f = g.from v u d q in on d q (r u f.0 (omega (arith, f.5, h)) f.2)

      by : ((u : ℕ) (d : Cost) → rank u < n → Has (label_at l u) d → Stems (swept_side l) u (root n l u)) →
          (z : Label Cost) → label_at l v ≡ z → Stems (swept_side l) v (elim z [
            | Blank ↦ v
            | Reached c o ↦ elim o [ Start ↦ v | From u ↦ root n l u ]
            | Settled c o ↦ elim o [ Start ↦ v | From u ↦ root n l u ]
          ])
      by r Blank e = absurd (subst (λ z. Has z c) e k)
      by r (Reached d o) e = more r o d (subst (λ z. Holds z d o) (sym e) (refl, refl))
      by r (Settled d o) e = more r o d (subst (λ z. Holds z d o) (sym e) (refl, refl))

  -- as many steps as there are places, and one, find the root
  pub root_is : (E : Roads C) (size : ℕ) (starts : ℕ → Type 0) (l : List (Label Cost)) (rank : ℕ → ℕ) → One C E size starts (swept_side l) rank →
      (v : ℕ) (c : Cost) → Has (label_at l v) c → Stems (swept_side l) v (root (suc size) l v)
  root_is E size starts l rank one v c h =
      root_stems E starts l rank (Whole.rooted C E size starts (swept_side l) rank one) (suc size) v c (omega (arith, one.ranked v, Tally.tally_le (label_at l) size)) h
