-- The laws of costs that the proofs use.
use Rattle.std.proofs.Common.{◌≡◌, ℕ, ◌+◌, ◌≤◌, List, [], ◌∷◌, ◌++◌, sym, subst, arith, length-append}
use Rattle.measure.specs.Costs.{Figures, total}
use Rattle.routes.specs.Costs.{Costs, Same, Priced}

module _ (C : Costs) where
  open C use {Cost, ◌≼◌, ◌⊕◌, free, blocked, price, ≼_refl, ≼_trans, ≼_blocked, ⊕_assoc, ⊕_comm, free_⊕, ⊕_more, ⊕_mono, few}

  infix 40 ◌≼◌
  infixl 65 ◌⊕◌
  pub ≼_≡ : {a b : Cost} → a ≡ b → a ≼ b
  ≼_≡ {a} {b} e = subst (λ x. a ≼ x) e (≼_refl a)

  pub free_least : (a : Cost) → free ≼ a
  free_least a = ≼_trans _ _ _ (⊕_more free a) (free_⊕ a).0

  pub more_left : (a b : Cost) → b ≼ a ⊕ b
  more_left a b = ≼_trans _ _ _ (⊕_more b a) (⊕_comm b a).0

  pub mono_left : (a b c : Cost) → a ≼ b → c ⊕ a ≼ c ⊕ b
  mono_left a b c h = ≼_trans _ _ _ (⊕_comm c a).0 (≼_trans _ _ _ (⊕_mono a b c h) (⊕_comm b c).0)

  pub mono₂ : {a b c d : Cost} → a ≼ b → c ≼ d → a ⊕ c ≼ b ⊕ d
  mono₂ {a} {b} {c} {d} h k = ≼_trans _ _ _ (⊕_mono a b c h) (mono_left c d b k)

  -- to stand for the same
  pub same_refl : (a : Cost) → Same C a a
  same_refl a = (≼_refl a, ≼_refl a)

  pub same_≡ : {a b : Cost} → a ≡ b → Same C a b
  same_≡ e = (≼_≡ e, ≼_≡ (sym e))

  pub same_back : {a b : Cost} → Same C a b → Same C b a
  same_back h = (h.1, h.0)

  pub same_on : {a b c : Cost} → Same C a b → Same C b c → Same C a c
  same_on h k = (≼_trans _ _ _ h.0 k.0, ≼_trans _ _ _ k.1 h.1)

  pub same_sum : {a b c d : Cost} → Same C a b → Same C c d → Same C (a ⊕ c) (b ⊕ d)
  same_sum h k = (mono₂ h.0 k.0, mono₂ h.1 k.1)

  pub ⊕_free : (a : Cost) → Same C (a ⊕ free) a
  ⊕_free a = same_on (⊕_comm a free) (free_⊕ a)

  -- this needs no law of its own
  pub blocked_⊕ : (a : Cost) → Same C (blocked ⊕ a) blocked
  blocked_⊕ a = (≼_blocked _, ⊕_more blocked a)

  -- sums of few prices
  abbrev pub sum : List Figures → Cost
  sum = total ◌⊕◌ free price

  sum_++ : (l m : List Figures) → Same C (sum (l ++ m)) (sum l ⊕ sum m)
  sum_++ [] m = same_back (free_⊕ (sum m))
  sum_++ (r ∷ l) m = same_on (same_sum (same_refl (price r.seconds r.steepness)) (sum_++ l m)) (same_back (⊕_assoc _ (sum l) (sum m)))

  pub priced_free : Priced C 0 free
  priced_free = ([], omega arith, same_refl free)

  pub priced_one : (r : Figures) → Priced C 1 (price r.seconds r.steepness)
  priced_one r = (r ∷ [], omega arith, same_back (⊕_free _))

  pub priced_sum : (j k : ℕ) (a b : Cost) → Priced C j a → Priced C k b → Priced C (j + k) (a ⊕ b)
  priced_sum j k a b p q =
      (p.0 ++ q.0, omega (arith, length-append p.0 q.0, p.1, q.1), same_on (same_sum p.2 q.2) (same_back (sum_++ p.0 q.0)))

  pub priced_more : (j k : ℕ) (a : Cost) → j ≤ k → Priced C j a → Priced C k a
  priced_more j k a l p = (p.0, omega (arith, p.1), p.2)

  pub few_open : (a : Cost) → Priced C 4096 a → blocked ≼ a → ⊥
  few_open a p h = few p.0 p.1 (≼_trans _ _ _ h p.2.0)

  pub few₂ : {j k : ℕ} {a b : Cost} → Priced C j a → Priced C k b → j ≤ 1024 → k ≤ 1024 → Priced C 2048 (a ⊕ b)
  few₂ {j} {k} {a} {b} p q l m = priced_more _ 2048 (a ⊕ b) (omega arith) (priced_sum j k a b p q)

  pub few₃ : {j k l : ℕ} {a b c : Cost} → Priced C j a → Priced C k b → Priced C l c → j ≤ 1024 → k ≤ 1024 → l ≤ 1024 → Priced C 4096 ((a ⊕ b) ⊕ c)
  few₃ {j} {k} {l} {a} {b} {c} p q r x y z = priced_more _ 4096 _ (omega arith) (priced_sum 2048 l _ _ (few₂ p q x y) r)

  pub few₄ : {a : Cost} → Priced C 2048 a → Priced C 4096 a
  few₄ {a} p = priced_more 2048 4096 a (omega arith) p
