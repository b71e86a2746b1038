-- Numbers below m that are all different, m of them, are all the numbers below m.
use Rattle.std.proofs.Common.{◌≡◌, ℕ, zero, suc, ◌<◌, true, false, cond, eqb, ◌⊎◌, Some, None, Option, sym, refl, ◌∙◌, subst, inl, inr, arith}
use Rattle.std.proofs.lemmas.Bool.{cases_eq, eqb-true, eqb-false, eq-eqb, ne_eqb}
use Rattle.format.specs.Picks.{first}
use Rattle.format.proofs.Picks.{none_of, found_in}

-- f maps the numbers below m to different numbers below m
pub record Injects (m : ℕ) (f : ℕ → ℕ) : Type 0 where
  pub below : (i : ℕ) → i < m → f i < m
  pub differ : (i j : ℕ) → i < m → j < m → f i ≡ f j → i ≡ j

-- f takes the value r below m
pub record Takes (m : ℕ) (f : ℕ → ℕ) (r : ℕ) : Type 0 where
  pub from : ℕ
  pub within : from < m
  pub gives : f from ≡ r

-- f below m, with the value m, if any, exchanged for the last one
abbrev lowered : ℕ → (ℕ → ℕ) → ℕ → ℕ
lowered m f i = cond (eqb (f i) m) (f m) (f i)

module _ (m : ℕ) (f : ℕ → ℕ) (h : Injects (suc m) f) where
  -- what the lowered function is at i
  lowered_at : (i : ℕ) → i < m → ((f i ≡ m) × (lowered m f i ≡ f m) × (f m < m)) ⊎ ((f i < m) × (lowered m f i ≡ f i))
  lowered_at i l = elim (cases_eq (f i) m) [
    | inl e ↦
        let t : eqb (f i) m ≡ true = eq-eqb (f i) m e in
        let b = h.below m (omega arith) in
        let ne : f m ≡ m → ⊥ = λ k. let s : i ≡ m = h.differ i m (omega arith) (omega arith) (e ∙ sym k) in omega arith in
        inl (e, rw t, elim (cases_eq (f m) m) [ inl k ↦ absurd (ne k) | inr k ↦ omega arith ])
    | inr e ↦
        let t : eqb (f i) m ≡ false = ne_eqb (f i) m e in
        let b = h.below i (omega arith) in
        inr (omega arith, rw t)
  ]

  lowered_injects : Injects m (lowered m f)
  lowered_injects = record {
    below = λ i l. elim (lowered_at i l) [ inl x ↦ rw x.1 x.2 | inr x ↦ rw x.1 x.0 ];
    differ = λ i j l k e. elim (lowered_at i l) [
      | inl x ↦ elim (lowered_at j k) [
        | inl y ↦ h.differ i j (omega arith) (omega arith) (x.0 ∙ sym y.0)
        | inr y ↦ let s : m ≡ j = h.differ m j (omega arith) (omega arith) (sym x.1 ∙ e ∙ y.1) in absurd (omega arith)
      ]
      | inr x ↦ elim (lowered_at j k) [
        | inl y ↦ let s : i ≡ m = h.differ i m (omega arith) (omega arith) (sym x.1 ∙ e ∙ y.1) in absurd (omega arith)
        | inr y ↦ h.differ i j (omega arith) (omega arith) (sym x.1 ∙ e ∙ y.1)
      ]
    ];
  }

  -- a value of the lowered function is a value of f
  raised : (r : ℕ) → Takes m (lowered m f) r → Takes (suc m) f r
  raised r t = let w = t.within in elim (lowered_at t.from t.within) [
    | inl x ↦ record { from = m; within = omega arith; gives = sym x.1 ∙ t.gives }
    | inr x ↦ record { from = t.from; within = omega arith; gives = sym x.1 ∙ t.gives }
  ]

  -- f without its last argument, if it never is m
  short : ((i : ℕ) → i < suc m → f i ≡ m → ⊥) → Injects m f
  short ne = record {
    below = λ i l. let b = h.below i (omega arith) in elim (cases_eq (f i) m) [ inl e ↦ absurd (ne i (omega arith) e) | inr e ↦ omega arith ];
    differ = λ i j l k. h.differ i j (omega arith) (omega arith);
  }

  -- the value m is taken
  top : ((r : ℕ) → r < m → (g : ℕ → ℕ) → Injects m g → Takes m g r) → Takes (suc m) f m
  top smaller = found (first (λ i. eqb (f i) m) 0 (suc m)) refl
    where
      found : (o : Option ℕ) → first (λ i. eqb (f i) m) 0 (suc m) ≡ o → Takes (suc m) f m
      found (Some i) e = let r = found_in (λ i. eqb (f i) m) 0 (suc m) i e in let u = r.0.below in
          record { from = i; within = omega arith; gives = eqb-true (f i) m r.1 }
      found None e =
          let ne : (i : ℕ) → i < suc m → f i ≡ m → ⊥ = λ i l. eqb-false (f i) m (none_of (λ i. eqb (f i) m) 0 (suc m) e i (omega arith) (omega arith)) in
          let s = short ne in
          let b : f m < m = let b' = h.below m (omega arith) in elim (cases_eq (f m) m) [ inl k ↦ absurd (ne m (omega arith) k) | inr k ↦ omega arith ] in
          let t = smaller (f m) b f s in
          let w = t.within in
          let q : t.from ≡ m = h.differ t.from m (omega arith) (omega arith) t.gives in
          absurd (omega arith)

pub all_taken : (m r : ℕ) → r < m → (f : ℕ → ℕ) → Injects m f → Takes m f r
all_taken zero r l f h = absurd (omega arith)
all_taken (suc m) r l f h = elim (cases_eq r m) [
  | inl e ↦ subst (Takes (suc m) f) (sym e) (top m f h (all_taken m))
  | inr e ↦ raised m f h r (all_taken m r (omega arith) (lowered m f) (lowered_injects m f h))
]
