-- Laws of `picked` and `first`.
use Rattle.std.proofs.Common.{◌≡◌, ℕ, zero, suc, ◌+◌, ◌<◌, ◌≤◌, Bool, true, false, eqb, ◌⊎◌, List, ◌∷◌, length, get_or, Some, None, Option, refl, ap, subst, inl, inr, arith}
use Rattle.std.proofs.lemmas.Bool.{cases_Bool, cases_lt, cases_eq, eq-eqb, eqb-true, eqb-false, cond_both, both_ways}
use Rattle.map.specs.Model.{Stands}
use Rattle.format.specs.Picks.{picked, first}

-- i is one of the n numbers from a on
pub record In (a n i : ℕ) : Type 0 where
  pub from : a ≤ i
  pub below : i < a + n

-- the numbers in the list rise
abbrev pub Rising : List ℕ → Type 0
Rising l = (i j : ℕ) → i < j → j < length l → get_or l i 0 < get_or l j 0

module _ (P : ℕ → Bool) where
  -- none of the n numbers from a on passes
  abbrev pub NoneOf : ℕ → ℕ → Type 0
  NoneOf a n = (i : ℕ) → a ≤ i → i < a + n → P i ≡ false

  later : (a n : ℕ) → NoneOf a (suc n) → NoneOf (suc a) n
  later a n h i l u = h i (omega arith) (omega arith)

  pub first_none : (a n : ℕ) → NoneOf a n → first P a n ≡ None
  first_none a zero h = refl
  first_none a (suc n) h = rw (h a (omega arith) (omega arith)) (first_none (suc a) n (later a n h))

  pub none_of : (a n : ℕ) → first P a n ≡ None → NoneOf a n
  none_of a zero e i l u = absurd (omega arith)
  none_of a (suc n) e i l u = elim (cases_Bool (P a)) [
    | inl t ↦ let k : ◌≡◌ {A = Option ℕ} (Some a) None = rw t at e in let z : ◌≡◌ {A = ℕ} 0 1 = cc in absurd (omega arith)
    | inr t ↦ let k : first P (suc a) n ≡ None = rw t at e in elim (cases_eq i a) [
      | inl s ↦ rw s t
      | inr s ↦ none_of (suc a) n k i (omega arith) (omega arith)
    ]
  ]

  pub first_found : (a n k : ℕ) → In a n k → P k ≡ true → ((i : ℕ) → a ≤ i → i < k → P i ≡ false) → first P a n ≡ Some k
  first_found a zero k h t f = let l = h.from in let u = h.below in absurd (omega arith)
  first_found a (suc n) k h t f = let l = h.from in let u = h.below in elim (cases_eq a k) [
    | inl s ↦ let t' : P a ≡ true = rw s t in rw t' (ap Some s)
    | inr s ↦ let t' : P a ≡ false = f a (omega arith) (omega arith) in
        rw t' (first_found (suc a) n k (record { from = omega arith; below = omega arith }) t (λ i l u. f i (omega arith) u))
  ]

  -- what was found passes
  pub found_in : (a n k : ℕ) → first P a n ≡ Some k → In a n k × (P k ≡ true)
  found_in a zero k e = let z : ◌≡◌ {A = ℕ} 0 1 = cc in absurd (omega arith)
  found_in a (suc n) k e = elim (cases_Bool (P a)) [
    | inl t ↦ let q : ◌≡◌ {A = Option ℕ} (Some a) (Some k) = rw t at e in let s : a ≡ k = cc in
        (record { from = omega arith; below = omega arith }, subst (λ j. P j ≡ true) s t)
    | inr t ↦ let q : first P (suc a) n ≡ Some k = rw t at e in
        let r = found_in (suc a) n k q in let l = r.0.from in let u = r.0.below in
        (record { from = omega arith; below = omega arith }, r.1)
  ]

  -- every number in the list is one of the n from a on, and passes
  abbrev pub Passing : ℕ → ℕ → List ℕ → Type 0
  Passing a n l = (j : ℕ) → j < length l → In a n (get_or l j 0) × (P (get_or l j 0) ≡ true)

  -- every number of the n from a on that passes is in the list
  abbrev pub Complete : ℕ → ℕ → List ℕ → Type 0
  Complete a n l = (r : ℕ) → In a n r → P r ≡ true → Stands l r

  more : (a n i : ℕ) → In (suc a) n i → In a (suc n) i
  more a n i h = let l = h.from in let u = h.below in record { from = omega arith; below = omega arith }

  passing_cons : (a n : ℕ) (l : List ℕ) → P a ≡ true → Passing (suc a) n l → Passing a (suc n) (a ∷ l)
  passing_cons a n l t h zero b = (record { from = omega arith; below = omega arith }, t)
  passing_cons a n l t h (suc j) b = let r = h j (omega arith) in (more a n _ r.0, r.1)

  pub picked_passing : (a n : ℕ) → Passing a n (picked P a n)
  picked_passing a zero = λ j b. absurd (omega arith)
  picked_passing a (suc n) = cond_both (P a) (a ∷ picked P (suc a) n) (picked P (suc a) n) (Passing a (suc n))
      (λ t. passing_cons a n (picked P (suc a) n) t (picked_passing (suc a) n))
      (λ t j b. let r = picked_passing (suc a) n j b in (more a n _ r.0, r.1))

  stands_later : (a r : ℕ) (l : List ℕ) → Stands l r → Stands (a ∷ l) r
  stands_later a r l s = let w = s.within in record { index = suc s.index; within = omega arith; same = s.same }

  pub picked_complete : (a n : ℕ) → Complete a n (picked P a n)
  picked_complete a zero = λ r h t. let l = h.from in let u = h.below in absurd (omega arith)
  picked_complete a (suc n) = cond_both (P a) (a ∷ picked P (suc a) n) (picked P (suc a) n) (Complete a (suc n))
      (λ e r h t. let l = h.from in let u = h.below in elim (cases_eq a r) [
        | inl s ↦ record { index = 0; within = omega arith; same = s }
        | inr s ↦ stands_later a r _ (picked_complete (suc a) n r (record { from = omega arith; below = omega arith }) t)
      ])
      (λ e r h t. let l = h.from in let u = h.below in elim (cases_eq a r) [
        | inl s ↦ absurd (both_ways (P a) e (rw s t))
        | inr s ↦ picked_complete (suc a) n r (record { from = omega arith; below = omega arith }) t
      ])

  rising_cons : (a : ℕ) (l : List ℕ) → ((j : ℕ) → j < length l → a < get_or l j 0) → Rising l → Rising (a ∷ l)
  rising_cons a l low h i zero b c = absurd (omega arith)
  rising_cons a l low h zero (suc j) b c = low j (omega arith)
  rising_cons a l low h (suc i) (suc j) b c = h i j (omega arith) (omega arith)

  pub picked_rising : (a n : ℕ) → Rising (picked P a n)
  picked_rising a zero = λ i j b c. absurd (omega arith)
  picked_rising a (suc n) = cond_both (P a) (a ∷ picked P (suc a) n) (picked P (suc a) n) Rising
      (λ t. rising_cons a (picked P (suc a) n) (λ j b. let r = (picked_passing (suc a) n j b).0.from in omega arith) (picked_rising (suc a) n))
      (λ t. picked_rising (suc a) n)

  -- numbers that do not pass may be left out in front
  pub picked_skip : (k a n : ℕ) → NoneOf a k → picked P a (k + n) ≡ picked P (a + k) n
  picked_skip zero a n h = let e : a + 0 ≡ a = omega arith in let z : 0 + n ≡ n = omega arith in rw (e, z)
  picked_skip (suc k) a n h =
      let s : suc k + n ≡ suc (k + n) = omega arith in
      let m : a + suc k ≡ suc a + k = omega arith in
      rw (s, m) (rw (h a (omega arith) (omega arith)) (picked_skip k (suc a) n (later a k h)))

-- Where a key does not fall and is at least p from a on, the picked numbers with the key p are a, a + 1, .. as long as
-- their key is p.
module _ (key : ℕ → ℕ) (p : ℕ) where
  -- the key of the n numbers from a on does not fall, and is at least p
  pub record Climbs (a n : ℕ) : Type 0 where
    pub least : (i : ℕ) → In a n i → p ≤ key i
    pub climbs : (i j : ℕ) → In a n i → i ≤ j → In a n j → key i ≤ key j

  rest_climbs : (a n : ℕ) → Climbs a (suc n) → Climbs (suc a) n
  rest_climbs a n c = record { least = λ i h. c.least i (up i h); climbs = λ i j h l k. c.climbs i j (up i h) l (up j k) }
    where
      up : (i : ℕ) → In (suc a) n i → In a (suc n) i
      up i h = more (λ _. true) a n i h

  abbrev pub keyed : ℕ → Bool
  keyed i = eqb (key i) p

  pub run_in : (a n j : ℕ) → Climbs a n → j < n → key (a + j) ≡ p →
      (j < length (picked keyed a n)) × (get_or (picked keyed a n) j 0 ≡ a + j)
  run_in a zero j c b e = absurd (omega arith)
  run_in a (suc n) j c b e =
      let low : p ≤ key a = c.least a (record { from = omega arith; below = omega arith }) in
      let high : key a ≤ key (a + j) = c.climbs a (a + j) (record { from = omega arith; below = omega arith }) (omega arith) (record { from = omega arith; below = omega arith }) in
      let t : keyed a ≡ true = eq-eqb (key a) p (omega arith) in
      rw t (at (run_in (suc a) n) j b e)
    where
      at : ((j : ℕ) → Climbs (suc a) n → j < n → key (suc a + j) ≡ p → (j < length (picked keyed (suc a) n)) × (get_or (picked keyed (suc a) n) j 0 ≡ suc a + j)) →
          (j : ℕ) → j < suc n → key (a + j) ≡ p → (j < length (a ∷ picked keyed (suc a) n)) × (get_or (a ∷ picked keyed (suc a) n) j 0 ≡ a + j)
      at later zero b e = (omega arith, omega arith)
      at later (suc j) b e =
          let s : a + suc j ≡ suc a + j = omega arith in
          let r = later j (rest_climbs a n c) (omega arith) (rw s at e) in
          let r0 = r.0 in let r1 = r.1 in (omega arith, omega arith)

  pub run_out : (a n j : ℕ) → Climbs a n → (n ≤ j) ⊎ (key (a + j) ≡ p → ⊥) → length (picked keyed a n) ≤ j
  run_out a zero j c o = omega arith
  run_out a (suc n) j c o = elim (cases_Bool (keyed a)) [
    | inl t ↦ rw t (at (λ j. run_out (suc a) n j (rest_climbs a n c)) j o (eqb-true (key a) p t))
    | inr t ↦ rw t (run_out (suc a) n j (rest_climbs a n c) (past j o (eqb-false (key a) p t)))
  ]
    where
      past : (j : ℕ) → (suc n ≤ j) ⊎ (key (a + j) ≡ p → ⊥) → (key a ≡ p → ⊥) → (n ≤ j) ⊎ (key (suc a + j) ≡ p → ⊥)
      past j o t = elim (cases_lt j n) [
        | inr l ↦ inl l
        | inl l ↦ inr λ e.
            let low : p ≤ key a = c.least a (record { from = omega arith; below = omega arith }) in
            let high : key a ≤ key (suc a + j) = c.climbs a (suc a + j) (record { from = omega arith; below = omega arith }) (omega arith) (record { from = omega arith; below = omega arith }) in
            t (omega arith)
      ]

      at : ((j : ℕ) → (n ≤ j) ⊎ (key (suc a + j) ≡ p → ⊥) → length (picked keyed (suc a) n) ≤ j) →
          (j : ℕ) → (suc n ≤ j) ⊎ (key (a + j) ≡ p → ⊥) → key a ≡ p → length (a ∷ picked keyed (suc a) n) ≤ j
      at later zero (inl l) e = absurd (omega arith)
      at later zero (inr k) e = let s : a + 0 ≡ a = omega arith in absurd (k (rw s e))
      at later (suc j) (inl l) e = let r = later j (inl (omega arith)) in omega arith
      at later (suc j) (inr k) e = let s : a + suc j ≡ suc a + j = omega arith in
          let r = later j (inr (rw s at k)) in omega arith
