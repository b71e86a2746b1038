-- Settling keeps the one-sided invariant: the place of least cost is settled.
use Rattle.std.proofs.Common.{◌≡◌, ℕ, suc, ◌<◌, ◌≤◌, ◌⊎◌, sym, refl, ap, ◌∙◌, subst, inl, inr, ⊎_elim, true≢false, add-one, arith}
use native.Mathlib.Decide.{ℕ_discrete}
use Rattle.routes.specs.Costs.{Costs, Priced}
use Rattle.routes.specs.Walks.{Roads}
use Rattle.routes.specs.States.{Origin, Start, From, Label, Blank, Reached, Settled, Side, Has, IsReached, IsSettled, Expanded, Pruned}
use Rattle.routes.specs.Routes.{Holds}
use Rattle.routes.specs.Turns.{Settles}
use Rattle.routes.specs.Kept.{weight, tally, One}
use Rattle.routes.proofs.Sums
use Rattle.routes.proofs.Tally

-- the new rank: a settled place keeps its own, the others come after n
abbrev pub shift : {K : Type 0} → Label K → ℕ → ℕ → ℕ
shift Blank r n = suc n
shift (Reached c o) r n = suc n
shift (Settled c o) r n = r

module _ {K : Type 0} where
  shift_settled : (l : Label K) (r n : ℕ) (d : K) → IsSettled l d → shift l r n ≡ r
  shift_settled Blank r n d h = absurd h
  shift_settled (Reached c o) r n d h = absurd h
  shift_settled (Settled c o) r n d h = refl

  shift_expand : (l : Label K) (r n : ℕ) → ((d : K) → IsSettled l d → ⊥) → shift l r n ≡ suc n
  shift_expand Blank r n h = refl
  shift_expand (Reached c o) r n h = refl
  shift_expand (Settled c o) r n h = absurd (h c refl)

  shift_below : (l : Label K) (r n m : ℕ) → r ≤ m → n < m → shift l r n ≤ m
  shift_below Blank r n m h k = omega arith
  shift_below (Reached c o) r n m h k = omega arith
  shift_below (Settled c o) r n m h k = omega arith

  shift_above : (l : Label K) (m r n : ℕ) → m < r → m < n → m < shift l r n
  shift_above Blank m r n h k = omega arith
  shift_above (Reached c o) m r n h k = omega arith
  shift_above (Settled c o) m r n h k = omega arith

module _ (C : Costs) where
  open C use {Cost, ◌≼◌, ◌⊕◌, ≼_refl}

  infix 40 ◌≼◌
  infixl 65 ◌⊕◌
  module _ (σ σ' : Side Cost) (u : ℕ) (c : Cost) (o : Origin) (h : Settles C σ σ' u c o) where
    at : (v : ℕ) → (v ≡ u) ⊎ ((v ≡ u → ⊥) × (σ'.label v ≡ σ.label v))
    at v = by (ℕ_discrete v u)
      where
        by : Dec (v ≡ u) → (v ≡ u) ⊎ ((v ≡ u → ⊥) × (σ'.label v ≡ σ.label v))
        by (yes e) = inl e
        by (no n) = inr (n, h.others v n)

    -- a fact of the labels goes over, and back, if it does at u
    over : (P Q : Label Cost → Type 0) → (P (Reached c o) → Q (Settled c o)) → ((l : Label Cost) → P l → Q l) → (v : ℕ) → P (σ.label v) → Q (σ'.label v)
    over P Q f g v k =
        ⊎_elim (λ e. subst Q (sym (ap σ'.label e ∙ h.is)) (f (subst P (ap σ.label e ∙ h.was) k)))
        (λ n. subst Q (sym n.1) (g (σ.label v) k)) (at v)

    back : (P Q : Label Cost → Type 0) → (Q (Settled c o) → P (Reached c o)) → ((l : Label Cost) → Q l → P l) → (v : ℕ) → Q (σ'.label v) → P (σ.label v)
    back P Q f g v k =
        ⊎_elim (λ e. subst P (sym (ap σ.label e ∙ h.was)) (f (subst Q (ap σ'.label e ∙ h.is) k)))
        (λ n. g (σ.label v) (subst Q n.1 k)) (at v)

    pub was_reached : IsReached (σ.label u) c
    was_reached = subst (λ l. IsReached l c) (sym h.was) refl

    pub is_settled : IsSettled (σ'.label u) c
    is_settled = subst (λ l. IsSettled l c) (sym h.is) refl

    pub was_unsettled : (d : Cost) → IsSettled (σ.label u) d → ⊥
    was_unsettled d k = subst (λ l. IsSettled l d) h.was k

    pub holds_over : (v : ℕ) (d : Cost) (q : Origin) → Holds (σ.label v) d q → Holds (σ'.label v) d q
    holds_over v d q = over (λ l. Holds l d q) (λ l. Holds l d q) (λ k. k) (λ l k. k) v

    pub holds_back : (v : ℕ) (d : Cost) (q : Origin) → Holds (σ'.label v) d q → Holds (σ.label v) d q
    holds_back v d q = back (λ l. Holds l d q) (λ l. Holds l d q) (λ k. k) (λ l k. k) v

    pub has_over : (v : ℕ) (d : Cost) → Has (σ.label v) d → Has (σ'.label v) d
    has_over v d = over (λ l. Has l d) (λ l. Has l d) (λ k. k) (λ l k. k) v

    pub has_back : (v : ℕ) (d : Cost) → Has (σ'.label v) d → Has (σ.label v) d
    has_back v d = back (λ l. Has l d) (λ l. Has l d) (λ k. k) (λ l k. k) v

    pub settled_over : (v : ℕ) (d : Cost) → IsSettled (σ.label v) d → IsSettled (σ'.label v) d
    settled_over v d = over (λ l. IsSettled l d) (λ l. IsSettled l d) (λ k. absurd k) (λ l k. k) v

    pub reached_back : (v : ℕ) (d : Cost) → IsReached (σ'.label v) d → IsReached (σ.label v) d
    reached_back v d = back (λ l. IsReached l d) (λ l. IsReached l d) (λ k. absurd k) (λ l k. k) v

    pub settled_back : (v : ℕ) (d : Cost) → IsSettled (σ'.label v) d → IsSettled (σ.label v) d ⊎ ((v ≡ u) × (c ≡ d))
    settled_back v d k =
        ⊎_elim (λ e. inr (e, subst (λ l. IsSettled l d) (ap σ'.label e ∙ h.is) k)) (λ n. inl (subst (λ l. IsSettled l d) n.1 k)) (at v)

    pub expanded_back : (v : ℕ) (d : Cost) → Expanded σ' v d → Expanded σ v d
    expanded_back v d k =
        ⊎_elim (λ e. absurd (true≢false (sym k.1 ∙ ap σ'.expanded e ∙ h.unexpanded)))
        (λ n. (subst (λ l. IsSettled l d) n.1 k.0, sym (h.same v n.0) ∙ k.1)) (at v)

    pub expanded_over : (v : ℕ) (d : Cost) → Expanded σ v d → Expanded σ' v d
    expanded_over v d k =
        ⊎_elim (λ e. absurd (was_unsettled d (subst (λ z. IsSettled (σ.label z) d) e k.0)))
        (λ n. (settled_over v d k.0, h.same v n.0 ∙ k.1)) (at v)

    pub pruned_back : (v : ℕ) (d : Cost) → Pruned σ' v d → ((v ≡ u) × (c ≡ d)) ⊎ Pruned σ v d
    pruned_back v d k =
        ⊎_elim (λ e. inl (e, subst (λ l. IsSettled l d) (ap σ'.label e ∙ h.is) k.0))
        (λ n. inr (subst (λ l. IsSettled l d) n.1 k.0, sym (h.same v n.0) ∙ k.1)) (at v)

    -- the ranks after the turn
    abbrev pub rank_after : (ℕ → ℕ) → ℕ → ℕ
    rank_after rank v = shift (σ'.label v) (rank v) (rank u)

    module _ (E : Roads C) (size : ℕ) (starts : ℕ → Type 0) (rank : ℕ → ℕ) (g : One C E size starts σ rank) where
      pub count : tally σ'.label size ≡ suc (tally σ.label size)
      count =
          Tally.tally_more σ.label σ'.label u size (g.inside u c (subst (λ l. Has l c) (sym h.was) refl)) (ap weight h.was) (ap weight h.is) h.others

      -- the cost of u and of one road more
      pub priced_on : (p : Cost) → Priced C 1 p → Priced C (tally σ'.label size) (c ⊕ p)
      priced_on p k = rw (count, ← add-one (tally σ.label size)) (Sums.priced_sum C _ 1 c p (g.counted u c (subst (λ l. Has l c) (sym h.was) refl)) k)

      pub settled_low : (v : ℕ) (d : Cost) → IsSettled (σ'.label v) d → d ≼ c
      settled_low v d k =
          ⊎_elim (λ i. g.ordered v u d c i was_reached) (λ e. subst (λ z. z ≼ c) e.1 (≼_refl c)) (settled_back v d k)

      pub one : One C E size starts σ' (rank_after rank)
      one = record {
        sound = λ v d k. g.sound v d (has_back v d k);
        counted = λ v d k. Sums.priced_more C _ _ d (omega (arith, count)) (g.counted v d (has_back v d k));
        inside = λ v d k. g.inside v d (has_back v d k);
        ordered = λ w v a b i j. ⊎_elim (λ k. g.ordered w v a b k (reached_back v b j)) (λ e. subst (λ z. z ≼ b) e.1 (h.least v b (reached_back v b j))) (settled_back w a i);
        relaxed = λ w v a p i r. let k = g.relaxed w v a p (expanded_back w a i) r in (k.0, has_over v k.0 k.1, k.2);
        begun = λ a i. let k = g.begun a i in (k.0, has_over a k.0 k.1, k.2);
        root = λ v d k. g.root v d (holds_back v d Start k);
        from = λ v w d k.
            let f = g.from v w d (holds_back v d (From w) k) in
            let i = settled_over w f.0 f.2 in (
              f.0,
              f.1,
              i,
              f.3,
              f.4,
              rw (shift_settled (σ'.label w) (rank w) (rank u) f.0 i) (shift_above (σ'.label v) (rank w) (rank v) (rank u) f.5 (g.later w u f.0 f.2 was_unsettled)),
            );
        later = λ w v d i n.
            rw (shift_settled (σ'.label w) (rank w) (rank u) d i, shift_expand (σ'.label v) (rank v) (rank u) n)
            (⊎_elim (λ k. omega (arith, g.later w u d k was_unsettled)) (λ e. rw e.0 (omega arith)) (settled_back w d i));
        ranked = λ v. shift_below (σ'.label v) (rank v) (rank u) _ (omega (arith, count, g.ranked v)) (omega (arith, count, g.ranked u));
      }
