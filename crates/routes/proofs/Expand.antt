-- Expanding keeps the one-sided invariant: the roads out of the place just settled are relaxed.
use Rattle.std.proofs.Common.{◌≡◌, ℕ, ◌<◌, ◌⊎◌, sym, refl, ap, ◌∙◌, subst, inl, inr, ⊎_elim, true≢false, arith}
use native.Mathlib.Decide.{ℕ_discrete}
use Rattle.routes.specs.Costs.{Costs, Priced}
use Rattle.routes.specs.Walks.{Roads, WayFrom}
use Rattle.routes.specs.States.{Origin, Start, From, Side, Has, IsReached, IsSettled, Expanded, Pruned}
use Rattle.routes.specs.Routes.{Holds}
use Rattle.routes.specs.Turns.{Expands, Leaves, Relaxes}
use Rattle.routes.specs.Kept.{weight, tally, One}
use Rattle.routes.proofs.Scan.{settled_has, has_one}
use Rattle.routes.proofs.Sums
use Rattle.routes.proofs.Ways
use Rattle.routes.proofs.Tally

pub start_from : (u : ℕ) → From u ≡ Start → ⊥
start_from u e = let z : ◌≡◌ {A = ℕ} 0 1 = cc in omega arith

pub from_one : (u w : ℕ) → From u ≡ From w → u ≡ w
from_one u w e = cc

module _ (C : Costs) where
  open C use {Cost, ◌≼◌, ◌⊕◌, ≼_refl, ≼_trans, ⊕_more}

  infix 40 ◌≼◌
  infixl 65 ◌⊕◌
  module _ (E : Roads C) (σ σ' : Side Cost) (u : ℕ) (c : Cost) (h : Expands C E σ σ' u c) where
    pub settled_over : (v : ℕ) (d : Cost) → IsSettled (σ.label v) d → IsSettled (σ'.label v) d
    settled_over v d k = ⊎_elim (λ l. subst (λ z. IsSettled z d) (sym l.is) k) (λ r. absurd (r.1.unsettled d k)) (h.labels v)

    pub settled_back : (v : ℕ) (d : Cost) → IsSettled (σ'.label v) d → IsSettled (σ.label v) d
    settled_back v d k = ⊎_elim (λ l. subst (λ z. IsSettled z d) l.is k) (λ r. absurd (subst (λ z. IsSettled z d) r.1.is k)) (h.labels v)

    pub holds_back : (v : ℕ) (d : Cost) (q : Origin) → Holds (σ'.label v) d q →
        Holds (σ.label v) d q ⊎ ((p : Cost) × Relaxes C E σ σ' u c v p × (c ⊕ p ≡ d) × (From u ≡ q))
    holds_back v d q k =
        ⊎_elim (λ l. inl (subst (λ z. Holds z d q) l.is k)) (λ r. let e = subst (λ z. Holds z d q) r.1.is k in inr (r.0, r.1, e.0, e.1)) (h.labels v)

    pub has_back : (v : ℕ) (d : Cost) → Has (σ'.label v) d → Has (σ.label v) d ⊎ ((p : Cost) × Relaxes C E σ σ' u c v p × (c ⊕ p ≡ d))
    has_back v d k = ⊎_elim (λ l. inl (subst (λ z. Has z d) l.is k)) (λ r. inr (r.0, r.1, subst (λ z. Has z d) r.1.is k)) (h.labels v)

    pub reached_back : (v : ℕ) (d : Cost) → IsReached (σ'.label v) d → IsReached (σ.label v) d ⊎ ((p : Cost) × (c ⊕ p ≡ d))
    reached_back v d k = ⊎_elim (λ l. inl (subst (λ z. IsReached z d) l.is k)) (λ r. inr (r.0, subst (λ z. IsReached z d) r.1.is k)) (h.labels v)

    -- a label only falls
    pub falls : (v : ℕ) (d : Cost) → Has (σ.label v) d → (e : Cost) × Has (σ'.label v) e × (e ≼ d)
    falls v d k =
        ⊎_elim (λ l. (d, subst (λ z. Has z d) (sym l.is) k, ≼_refl d))
        (λ r. (c ⊕ r.0, subst (λ z. Has z (c ⊕ r.0)) (sym r.1.is) refl, r.1.less d k)) (h.labels v)

    -- which places are expanded, and which are pruned
    pub expanded_back : (v : ℕ) (d : Cost) → Expanded σ' v d → (v ≡ u) ⊎ Expanded σ v d
    expanded_back v d k = by (ℕ_discrete v u)
      where
        by : Dec (v ≡ u) → (v ≡ u) ⊎ Expanded σ v d
        by (yes e) = inl e
        by (no n) = inr (settled_back v d k.0, sym (h.same v n) ∙ k.1)

    pub pruned_back : (v : ℕ) (d : Cost) → Pruned σ' v d → (v ≡ u → ⊥) × Pruned σ v d
    pruned_back v d k = by (ℕ_discrete v u)
      where
        by : Dec (v ≡ u) → (v ≡ u → ⊥) × Pruned σ v d
        by (yes e) = absurd (true≢false (sym h.expanded_now ∙ ap σ'.expanded (sym e) ∙ k.1))
        by (no n) = (n, (settled_back v d k.0, sym (h.same v n) ∙ k.1))

    pub same_count : (n : ℕ) → tally σ'.label n ≡ tally σ.label n
    same_count n = Tally.tally_same σ.label σ'.label n (λ v _. same v)
      where
        same : (v : ℕ) → weight (σ'.label v) ≡ weight (σ.label v)
        same v = ⊎_elim (λ l. ap weight l.is) (λ r. ap weight r.1.is ∙ sym (Tally.weight_none (σ.label v) r.1.unsettled)) (h.labels v)

    -- u was settled last, at the greatest cost so far
    module _ (size : ℕ) (starts : ℕ → Type 0) (rank : ℕ → ℕ) (g : One C E size starts σ rank)
        (done : IsSettled (σ.label u) c) (low : (v : ℕ) (d : Cost) → IsSettled (σ.label v) d → d ≼ c)
        (inside : (v w : ℕ) (p : Cost) → E v w p → w < size) (single : (v w : ℕ) (p q : Cost) → E v w p → E v w q → p ≡ q)
        (priced : (v : ℕ) (p : Cost) → E u v p → Priced C (tally σ.label size) (c ⊕ p)) where
      -- each road out of u is relaxed
      pub relaxed_u : (v : ℕ) (p : Cost) → E u v p → (d : Cost) × Has (σ'.label v) d × (d ≼ c ⊕ p)
      relaxed_u v p r = ⊎_elim left (λ k. (c ⊕ k.0, subst (λ z. Has z (c ⊕ k.0)) (sym k.1.is) refl, Sums.≼_≡ C (ap (λ z. c ⊕ z) (single u v k.0 p k.1.road r)))) (h.labels v)
        where
          left : Leaves C E σ σ' u c v → (d : Cost) × Has (σ'.label v) d × (d ≼ c ⊕ p)
          left l =
              let f = l.fits p r in
              let put : Has (σ.label v) f.0 → Has (σ'.label v) f.0 = λ k. subst (λ z. Has z f.0) (sym l.is) k in
              ⊎_elim (λ k. (f.0, put (settled_has (σ.label v) f.0 k), ≼_trans _ _ _ (low v f.0 k) (⊕_more c p))) (λ k. (f.0, put k.0, k.1)) f.1

      pub at_u : (v : ℕ) (d : Cost) → v ≡ u → IsSettled (σ'.label v) d → c ≡ d
      at_u v d e k =
          has_one (σ.label u) c d (settled_has (σ.label u) c done)
          (settled_has (σ.label u) d (subst (λ z. IsSettled (σ.label z) d) e (settled_back v d k)))

      pub one : One C E size starts σ' rank
      one = record {
        sound = λ v d k. ⊎_elim (g.sound v d)
            (λ n. subst (WayFrom C E starts v) n.2 (let w = g.sound u c (settled_has (σ.label u) c done) in (w.0, w.1, Ways.join C w.2 (Ways.one C n.1.road)))) (has_back v d k);
        counted = λ v d k. rw (same_count size) (⊎_elim (g.counted v d) (λ n. subst (Priced C (tally σ.label size)) n.2 (priced v n.0 n.1.road)) (has_back v d k));
        inside = λ v d k. ⊎_elim (g.inside v d) (λ n. inside u v n.0 n.1.road) (has_back v d k);
        ordered = λ w v a b i j. ⊎_elim (λ k. g.ordered w v a b (settled_back w a i) k)
            (λ n. ≼_trans _ _ _ (low w a (settled_back w a i)) (subst (λ z. c ≼ z) n.1 (⊕_more c n.0))) (reached_back v b j);
        relaxed = λ w v a p i r. ⊎_elim
            (λ e. let k = relaxed_u v p (subst (λ z. E z v p) e r) in (k.0, k.1, subst (λ z. k.0 ≼ z ⊕ p) (at_u w a e i.0) k.2))
            (λ o. let k = g.relaxed w v a p o r in let f = falls v k.0 k.1 in (f.0, f.1, ≼_trans _ _ _ f.2 k.2)) (expanded_back w a i);
        begun = λ a i. let k = g.begun a i in let f = falls a k.0 k.1 in (f.0, f.1, ≼_trans _ _ _ f.2 k.2);
        root = λ v d k. ⊎_elim (g.root v d) (λ n. absurd (start_from u n.3)) (holds_back v d Start k);
        from = λ v w d k. ⊎_elim
            (λ i. let f = g.from v w d i in (f.0, f.1, settled_over w f.0 f.2, f.3, f.4, f.5))
            (λ n. subst (λ z. (e : Cost) × (p : Cost) × IsSettled (σ'.label z) e × E z v p × (d ≡ e ⊕ p) × (rank z < rank v)) (from_one u w n.3)
            (c, n.0, settled_over u c done, n.1.road, sym n.2, g.later u v c done n.1.unsettled)) (holds_back v d (From w) k);
        later = λ w v d i n. g.later w v d (settled_back w d i) (λ e k. n e (settled_over v e k));
        ranked = λ v. rw (same_count size) (g.ranked v);
      }
