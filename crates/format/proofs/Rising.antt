-- A list of pairs each of which is before the next.
use Rattle.std.proofs.Common.{◌≡◌, ℕ, zero, suc, ◌+◌, ◌-◌, ◌<◌, ◌≤◌, true, ◌&&◌, eqb, ltb, ◌⊎◌, ◌∙◌, subst, inl, inr, arith}
use Rattle.std.proofs.lemmas.Bool.{or_cases, and_parts, ltb-true, eqb-true, cases_order, cases_lt}
use Rattle.format.specs.Reading.{before}

-- The pair (a, b) is before (c, d).
abbrev pub Before : ℕ → ℕ → ℕ → ℕ → Type 0
Before a b c d = (a < c) ⊎ ((a ≡ c) × (b < d))

pub before_holds : (a b c d : ℕ) → before a b c d ≡ true → Before a b c d
before_holds a b c d t = elim (or_cases (ltb a c) (eqb a c && ltb b d) t) [
  | inl l ↦ inl (ltb-true a c l)
  | inr e ↦ let p = and_parts (eqb a c) (ltb b d) e in inr (eqb-true a c p.0, ltb-true b d p.1)
]

join : (a b c d e f : ℕ) → Before a b c d → Before c d e f → Before a b e f
join a b c d e f (inl x) (inl y) = inl (omega arith)
join a b c d e f (inl x) (inr y) = let z = y.0 in inl (omega arith)
join a b c d e f (inr x) (inl y) = let z = x.0 in inl (omega arith)
join a b c d e f (inr x) (inr y) = let p = x.1 in let q = y.1 in inr (x.0 ∙ y.0, omega arith)

-- each of the m pairs is before the next
abbrev pub Steps : (ℕ → ℕ) → (ℕ → ℕ) → ℕ → Type 0
Steps k l m = (i : ℕ) → suc i < m → Before (k i) (l i) (k (suc i)) (l (suc i))

module _ (k l : ℕ → ℕ) (m : ℕ) (steps : Steps k l m) where
  far : (i d : ℕ) → i + suc d < m → Before (k i) (l i) (k (i + suc d)) (l (i + suc d))
  far i zero h = let e : i + 1 ≡ suc i = omega arith in rw e (steps i (omega arith))
  far i (suc d) h = let e : i + suc (suc d) ≡ suc (i + suc d) = omega arith in
      rw e (join _ _ _ _ _ _ (far i d (omega arith)) (steps (i + suc d) (omega arith)))

  pub rising : (i j : ℕ) → i < j → j < m → Before (k i) (l i) (k j) (l j)
  rising i j h u = let e : i + suc (j - i - 1) ≡ j = omega arith in
      subst (λ n. Before (k i) (l i) (k n) (l n)) e (far i (j - i - 1) (omega arith))

  -- the first numbers do not fall
  pub climbing : (i j : ℕ) → i ≤ j → j < m → k i ≤ k j
  climbing i j h u = elim (cases_order i j) [
    | inl e ↦ rw e (omega arith)
    | inr o ↦ elim (cases_lt i j) [
      | inl b ↦ elim (rising i j b u) [ inl x ↦ omega arith | inr x ↦ let z = x.0 in omega arith ]
      | inr b ↦ let e : i ≡ j = omega arith in rw e (omega arith)
    ]
  ]

  -- no two pairs are the same
  pub apart : (i j : ℕ) → i < m → j < m → k i ≡ k j → l i ≡ l j → i ≡ j
  apart i j a b e f = elim (cases_order i j) [
    | inl s ↦ s
    | inr (inl h) ↦ elim (rising i j h b) [ inl x ↦ absurd (omega arith) | inr x ↦ let z = x.1 in absurd (omega arith) ]
    | inr (inr h) ↦ elim (rising j i h a) [ inl x ↦ absurd (omega arith) | inr x ↦ let z = x.1 in absurd (omega arith) ]
  ]
