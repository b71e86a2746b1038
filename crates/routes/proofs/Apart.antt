-- Whatever the table holds: no place is settled by both sides of a search, and best is at most the sum of the two costs
-- at each place that both have labelled.
use Rattle.std.proofs.Common.{◌≡◌, ℕ, ◌<◌, ◌⊎◌, sym, subst, inl, inr, ⊎_elim}
use mathlib.Core.Option.{some}
use Rattle.routes.specs.Costs.{Costs, Priced}
use Rattle.routes.specs.Walks.{Roads, Back, At}
use Rattle.routes.specs.States.{Origin, Side, Has, IsReached, IsSettled}
use Rattle.routes.specs.Turns.{Settles, Expands}
use Rattle.routes.specs.Invariants.{Attained}
use Rattle.routes.specs.Kept.{One}
use Rattle.routes.specs.Search.{Given, flip}
use Rattle.routes.proofs.Scan.{settled_has, reached_has}
use Rattle.routes.proofs.Sums
use Rattle.routes.proofs.Settle
use Rattle.routes.proofs.Expand

module _ (C : Costs) where
  open C use {Cost, ◌≼◌, ◌⊕◌, ≼_trans, ⊕_comm, ⊕_mono}

  infix 40 ◌≼◌
  infixl 65 ◌⊕◌
  -- The roads lead between the places, and each has a price.
  pub record Fair (G : Given Cost) : Type 0 where
    pub inside : (u v : ℕ) (p : Cost) → G.price u v ≡ some p → (u < G.size) × (v < G.size)
    pub prices : (u v : ℕ) (p : Cost) → G.price u v ≡ some p → Priced C 1 p

  -- So they do and have turned round.
  pub fair_other : (G : Given Cost) → Fair G → Fair (flip G)
  fair_other G h = record { inside = λ u v p e. let k = h.inside v u p e in (k.1, k.0); prices = λ u v p e. h.prices v u p e }

  -- What every turn keeps of both sides.
  pub record Parted (E : Roads C) (n s t : ℕ) (σ τ : Side Cost) (meet : ℕ) (best : Cost) : Type 0 where
    pub rank_f : ℕ → ℕ
    pub rank_b : ℕ → ℕ
    pub fore : One C E n (At s) σ rank_f
    pub back : One C (Back C E) n (At t) τ rank_b
    -- best is at most the sum at each place that both sides have labelled
    pub below : (v : ℕ) (c d : Cost) → Has (σ.label v) c → Has (τ.label v) d → best ≼ c ⊕ d
    -- no place is settled by both
    pub apart : (v : ℕ) (c d : Cost) → IsSettled (σ.label v) c → IsSettled (τ.label v) d → ⊥
    pub attained : Attained C σ τ meet best

  -- It is the same seen from the other side.
  pub parted_other : (E : Roads C) (n s t : ℕ) (σ τ : Side Cost) (meet : ℕ) (best : Cost) → Parted E n s t σ τ meet best → Parted (Back C E) n t s τ σ meet best
  parted_other E n s t σ τ meet best k = record {
    rank_f = k.rank_b;
    rank_b = k.rank_f;
    fore = k.back;
    back = k.fore;
    below = λ v c d i j. ≼_trans _ _ _ (k.below v d c j i) (⊕_comm d c).0;
    apart = λ v c d i j. k.apart v d c j i;
    attained = ⊎_elim inl (λ m. inr (m.1, m.0, m.3, m.2, ≼_trans _ _ _ (⊕_comm m.1 m.0).0 m.4)) k.attained;
  }

  module _ (E : Roads C) (n s t : ℕ) (σ τ : Side Cost) (meet : ℕ) (best : Cost) (k : Parted E n s t σ τ meet best)
      (mid : Side Cost) (u : ℕ) (c : Cost) (o : Origin) (h : Settles C σ mid u c o) where
    -- The side settles u at c, where best is not at most the sum of c and of a cost d at which the other side has reached a
    -- place. So the other side has not settled u, which it would have done at most at d.
    pub settled : (y : ℕ) (d : Cost) → IsReached (τ.label y) d → (best ≼ c ⊕ d → ⊥) → Parted E n s t mid τ meet best
    settled y d r goes = record {
      rank_f = Settle.rank_after C σ mid u c o h k.rank_f;
      rank_b = k.rank_b;
      fore = Settle.one C σ mid u c o h E n (At s) k.rank_f k.fore;
      back = k.back;
      below = λ v a b i j. k.below v a b (Settle.has_back C σ mid u c o h v a i) j;
      apart = λ v a b i j. ⊎_elim (λ i₀. k.apart v a b i₀ j) (λ e. at v b e.0 j) (Settle.settled_back C σ mid u c o h v a i);
      attained = ⊎_elim inl (λ m. inr (m.0, m.1, Settle.has_over C σ mid u c o h meet m.0 m.2, m.3, m.4)) k.attained;
    }
      where
        at : (v : ℕ) (b : Cost) → v ≡ u → IsSettled (τ.label v) b → ⊥
        at v b e j =
            let j₀ = subst (λ z. IsSettled (τ.label z) b) e j in
            goes (≼_trans _ _ _ (k.below u c b (reached_has (σ.label u) c (Settle.was_reached C σ mid u c o h)) (settled_has (τ.label u) b j₀)) (Sums.mono_left C b d c (k.back.ordered u y b d j₀ r)))

    module _ (after : Side Cost) (x : Expands C E mid after u c)
        (inside : (v w : ℕ) (p : Cost) → E v w p → w < n) (single : (v w : ℕ) (p q : Cost) → E v w p → E v w q → p ≡ q) (prices : (v w : ℕ) (p : Cost) → E v w p → Priced C 1 p) where
      -- Then it expands u, and best falls to the least sum at the far ends of its roads: no other label has changed.
      pub expanded : (m : Parted E n s t mid τ meet best) (meet' : ℕ) (best' : Cost) → best' ≼ best →
          ((v : ℕ) (p a b : Cost) → E u v p → Has (after.label v) a → Has (τ.label v) b → best' ≼ a ⊕ b) →
          ((best' ≡ best) × (meet' ≡ meet)) ⊎ ((a : Cost) × (b : Cost) × Has (after.label meet') a × Has (τ.label meet') b × (a ⊕ b ≡ best')) →
          Parted E n s t after τ meet' best'
      expanded m meet' best' less each made = record {
        rank_f = Settle.rank_after C σ mid u c o h k.rank_f;
        rank_b = k.rank_b;
        fore = Expand.one C E mid after u c x n (At s) (Settle.rank_after C σ mid u c o h k.rank_f) (Settle.one C σ mid u c o h E n (At s) k.rank_f k.fore) (Settle.is_settled C σ mid u c o h)
            (Settle.settled_low C σ mid u c o h E n (At s) k.rank_f k.fore) inside single (λ v p r. Settle.priced_on C σ mid u c o h E n (At s) k.rank_f k.fore p (prices u v p r));
        back = k.back;
        below = λ v a b i j. ⊎_elim (λ i₀. ≼_trans _ _ _ less (m.below v a b i₀ j)) (λ r. each v r.0 a b r.1.road i j) (Expand.has_back C E mid after u c x v a i);
        apart = λ v a b i j. m.apart v a b (Expand.settled_back C E mid after u c x v a i) j;
        attained = ⊎_elim (λ e. kept e.0 e.1) (λ q. inr (q.0, q.1, q.2, q.3, Sums.≼_≡ C q.4)) made;
      }
        where
          old : Attained C after τ meet best
          old = ⊎_elim inl (λ q. let f = Expand.falls C E mid after u c x meet q.0 q.2 in inr (f.0, q.1, f.1, q.3, ≼_trans _ _ _ (⊕_mono _ _ q.1 f.2) q.4)) m.attained

          kept : best' ≡ best → meet' ≡ meet → Attained C after τ meet' best'
          kept e f = subst (λ z. Attained C after τ z best') (sym f) (subst (λ z. Attained C after τ meet z) (sym e) old)
