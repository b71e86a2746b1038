-- The gate: when the first own border place is settled, its cost is a lower bound for all that is not settled yet.
use Rattle.std.proofs.Common.{◌≡◌, ℕ, ◌≤◌, ◌⊎◌, sym, refl, ap, ◌∙◌, subst, inl, inr, ⊎_elim, arith}
use mathlib.Core.Option.{Option, some, none}
use Rattle.routes.specs.Costs.{Costs, Priced}
use Rattle.routes.specs.Walks.{Roads, Walk, At}
use Rattle.routes.specs.States.{Origin, Side, IsSettled}
use Rattle.routes.specs.Turns.{Settles, Gates, Expands}
use Rattle.routes.specs.Invariants.{Grown}
use Rattle.routes.specs.Kept.{One, Gated, Unpruned}
use Rattle.routes.proofs.Scan
use Rattle.routes.proofs.Sums
use Rattle.routes.proofs.Tally
use Rattle.routes.proofs.Settle
use Rattle.routes.proofs.Expand

pub none_some : {K : Type 0} (o : Option K) (g : K) → o ≡ none → o ≡ some g → ⊥
none_some o g a b = let z : ◌≡◌ {A = ℕ} 0 1 = cc in omega arith

pub some_one : {K : Type 0} (o : Option K) (g k : K) → o ≡ some g → o ≡ some k → g ≡ k
some_one o g k a b = cc

pub known_or : {K : Type 0} (o : Option K) → (o ≡ none) ⊎ ((g : K) × (o ≡ some g))
known_or none = inl refl
known_or (some g) = inr (g, refl)

module _ (C : Costs) where
  open C use {Cost, ◌≼◌, ◌⊕◌, ≼_trans, ⊕_more}

  infix 40 ◌≼◌
  infixl 65 ◌⊕◌
  pub grown : (E : Roads C) (size : ℕ) (starts : ℕ → Type 0) (σ : Side Cost) (rank : ℕ → ℕ) → One C E size starts σ rank → size ≤ 1024 → Grown C E starts σ
  grown E size starts σ rank g small = record {
    sound = g.sound;
    priced = λ v c h. Sums.priced_more C _ 1024 c (omega (arith, Tally.tally_le σ.label size)) (g.counted v c h);
    relaxed = g.relaxed;
    begun = g.begun;
  }

  module _ (E : Roads C) (size s : ℕ) (σ : Side Cost) (rank : ℕ → ℕ) (g : One C E size (At s) σ rank) (small : size ≤ 1024) where
    module _ (own : ℕ → Type 0) (σ' : Side Cost) (u : ℕ) (c : Cost) (o : Origin)
        (h : Settles C σ σ' u c o) (n : Gates C own σ σ' u c) (i : Gated C E own s σ) (w : Unpruned C σ) where
      -- before the gate is found: a walk to a place that is not settled costs at least the least reached cost
      far : σ.gate ≡ none → (z : ℕ) → ((d : Cost) → IsSettled (σ.label z) d → ⊥) → (q : Cost) → Walk C E s z q → c ≼ q
      far e z k q v = ⊎_elim (λ t. absurd (k t.cost t.expanded_there.0)) held (Scan.scan₀ C E (At s) σ (grown E size (At s) σ rank g small) refl v)
        where
          held : Scan.Held C E (At s) z σ q → c ≼ q
          held t =
              ≼_trans _ _ _
              (⊎_elim (λ r. h.least t.place t.cost r) (λ p. absurd (w e t.place t.cost p)) t.unexpanded)
              (≼_trans _ _ _ t.least (≼_trans _ _ _ (⊕_more t.before t.after) t.whole))

      settled_before : (z : ℕ) → ((d : Cost) → IsSettled (σ'.label z) d → ⊥) → (d : Cost) → IsSettled (σ.label z) d → ⊥
      settled_before z k d r = k d (Settle.settled_over C σ σ' u c o h z d r)

      pub settles : Gated C E own s σ'
      settles = record {
        unmet = λ e z d m k. ⊎_elim
            (λ e₀. ⊎_elim (λ r. none_some σ'.gate c e r.1)
            (λ r. ⊎_elim (λ k₀. i.unmet e₀ z d m k₀) (λ y. r.0 (subst own y.0 m)) (Settle.settled_back C σ σ' u c o h z d k)) (n.fresh e₀))
            (λ r. absurd (none_some σ'.gate r.0 e (n.known r.0 r.1))) (known_or σ.gate);
        few_prices = λ k e. ⊎_elim
            (λ e₀. ⊎_elim (λ r. subst (Priced C 1024) (some_one σ'.gate c k r.1 e) ((grown E size (At s) σ rank g small).priced u c (Scan.reached_has (σ.label u) c (Settle.was_reached C σ σ' u c o h))))
            (λ r. absurd (none_some σ'.gate k r.1 e)) (n.fresh e₀))
            (λ r. i.few_prices k (r.1 ∙ ap some (some_one σ'.gate r.0 k (n.known r.0 r.1) e))) (known_or σ.gate);
        bound = λ k e z m q v. ⊎_elim
            (λ e₀. ⊎_elim
            (λ r. subst (λ y. y ≼ q) (some_one σ'.gate c k r.1 e) (far e₀ z (⊎_elim (λ m' d. i.unmet e₀ z d m') (settled_before z) m) q v))
            (λ r. absurd (none_some σ'.gate k r.1 e)) (n.fresh e₀))
            (λ r. i.bound k (r.1 ∙ ap some (some_one σ'.gate r.0 k (n.known r.0 r.1) e)) z (⊎_elim inl (λ m'. inr (settled_before z m')) m) q v)
            (known_or σ.gate);
      }

  -- expanding a place changes nothing that the gate speaks of
  pub expands : (E : Roads C) (own : ℕ → Type 0) (s : ℕ) (σ σ' : Side Cost) (u : ℕ) (c : Cost) → Expands C E σ σ' u c → Gated C E own s σ → Gated C E own s σ'
  expands E own s σ σ' u c h i = record {
    unmet = λ e z d m k. i.unmet (sym h.gate_same ∙ e) z d m (Expand.settled_back C E σ σ' u c h z d k);
    few_prices = λ k e. i.few_prices k (sym h.gate_same ∙ e);
    bound = λ k e z m q v. i.bound k (sym h.gate_same ∙ e) z (⊎_elim inl (λ m'. inr (λ d r. m' d (Expand.settled_over C E σ σ' u c h z d r))) m) q v;
  }
