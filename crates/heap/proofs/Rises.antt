-- An entry rises: it is exchanged with its parent while it comes before it.
use Rattle.std.proofs.Common.{◌≡◌, ℕ, ◌<◌, Bool, true, false, subst, ⊎_elim, arith}
use Rattle.std.proofs.lemmas.Bool.{cases_eq}
use Rattle.heap.specs.Heaps.{Ordered, parent}
use Rattle.heap.specs.Sifts.{Exchange, Rising}
use Rattle.fringe.proofs.Ranks.{Ranked}

module _ {E : Type 0} {leq : E → E → Bool} (o : Ranked leq) {n : ℕ} {at : ℕ → E} {i : ℕ} (up : Rising leq n at i) where
  -- It does not come before its parent: all is in order.
  pub risen : leq (at (parent i)) (at i) ≡ true → Ordered leq n at
  risen fine k h l = ⊎_elim (λ (e : k ≡ i). rw e fine) (up.others k h l) (cases_eq k i)

  -- It is the first.
  pub risen_first : i ≡ 0 → Ordered leq n at
  risen_first z k h l = up.others k h l (λ e. omega arith)

  module _ {at' : ℕ → E} (s : Exchange at at' i (parent i)) (pos : 0 < i) (il : i < n) (low : leq (at (parent i)) (at i) ≡ false) where
    above : leq (at i) (at (parent i)) ≡ true
    above = o.total _ _ low

    -- The other child of the parent.
    sibling : (k : ℕ) → 0 < k → k < n → (k ≡ i → ⊥) → parent k ≡ parent i → leq (at (parent i)) (at k) ≡ true
    sibling k h l x e = subst (λ q. leq (at q) (at k) ≡ true) e (up.others k h l x)

    others_after : (k : ℕ) → 0 < k → k < n → (k ≡ parent i → ⊥) → leq (at' (parent k)) (at' k) ≡ true
    others_after k h l y =
        ⊎_elim
        (λ (e : k ≡ i). rw (e, s.1, s.0) above)
        (λ x. rw (s.2 k x y)
        (⊎_elim
        (λ (e : parent k ≡ i). rw (e, s.0) (up.across k h l e pos))
        (λ a. ⊎_elim
        (λ (e : parent k ≡ parent i). rw (e, s.1) (o.chain _ _ _ above (sibling k h l x e)))
        (λ b. rw (s.2 (parent k) a b) (up.others k h l x))
        (cases_eq (parent k) (parent i)))
        (cases_eq (parent k) i)))
        (cases_eq k i)

    across_after : (k : ℕ) → 0 < k → k < n → parent k ≡ parent i → 0 < parent i → leq (at' (parent (parent i))) (at' k) ≡ true
    across_after k h l e z =
        let top = up.others (parent i) z (omega arith) (λ t. omega arith) in
        rw (s.2 (parent (parent i)) (λ t. omega arith) (λ t. omega arith))
        (⊎_elim
        (λ (t : k ≡ i). rw (t, s.0) top)
        (λ x. rw (s.2 k x (λ t. omega arith)) (o.chain _ _ _ top (sibling k h l x e)))
        (cases_eq k i))

    -- One step nearer to the front.
    pub rises : Rising leq n at' (parent i)
    rises = record { others = others_after; across = across_after }
