-- Lists of places without repeats: how long they can be, and two of them put together.
use Rattle.std.proofs.Common.{◌≡◌, ℕ, zero, suc, ◌+◌, ◌<◌, ◌≤◌, Bool, true, false, eqb, ◌⊎◌, List, [], ◌∷◌, length, sym, refl, ap, ◌∙◌, subst, inl, inr, ⊎_elim, arith, eq-eqb, eqb-true}
use mathlib.Core.Bool.{false≢true}
use borrow.Author.Tests.{eqb-false}
use Rattle.std.proofs.lemmas.Bool.{or_cases, or_left}
use Rattle.routes.specs.Promise.{Among, NoneTwice}
use Rattle.routes.specs.Routes.{onto}
use Rattle.routes.specs.Search.{member, from_place, spliced}

-- The list without the place a.
abbrev without : ℕ → List ℕ → List ℕ
without a [] = []
without a (b ∷ l) = elim (eqb a b) [ true ↦ without a l | false ↦ b ∷ without a l ]

-- What is left was there, and is not a.
left_in : (a : ℕ) (l : List ℕ) (y : ℕ) → Among y (without a l) → Among y l × (y ≡ a → ⊥)
left_in a [] y h = absurd h
left_in a (b ∷ l) y h = by (left_in a l y) (eqb a b) refl h
  where
    by : (Among y (without a l) → Among y l × (y ≡ a → ⊥)) → (c : Bool) → eqb a b ≡ c →
        Among y (elim c [ true ↦ without a l | false ↦ b ∷ without a l ]) → Among y (b ∷ l) × (y ≡ a → ⊥)
    by more true e h = let k = more h in (inr k.0, k.1)
    by more false e (inl q) = (inl q, λ p. eqb-false a b e (sym p ∙ q))
    by more false e (inr h) = let k = more h in (inr k.0, k.1)

left_once : (a : ℕ) (l : List ℕ) → NoneTwice l → NoneTwice (without a l)
left_once a [] h = tt
left_once a (b ∷ l) h = by (left_once a l h.1) (eqb a b)
  where
    by : NoneTwice (without a l) → (c : Bool) → NoneTwice (elim c [ true ↦ without a l | false ↦ b ∷ without a l ])
    by more true = more
    by more false = (λ i. h.0 (left_in a l b i).0, more)

-- A place that is not there leaves the list as long as it was, and one that stands there once takes one away.
left_all : (a : ℕ) (l : List ℕ) → (Among a l → ⊥) → length l ≤ length (without a l)
left_all a [] h = omega arith
left_all a (b ∷ l) h = by (left_all a l (λ i. h (inr i))) (eqb a b) refl
  where
    by : length l ≤ length (without a l) → (c : Bool) → eqb a b ≡ c → suc (length l) ≤ length (elim c as (λ _. List ℕ) [ true ↦ without a l | false ↦ b ∷ without a l ])
    by more true e = absurd (h (inl (eqb-true a b e)))
    by more false e = omega arith

left_most : (a : ℕ) (l : List ℕ) → NoneTwice l → length l ≤ suc (length (without a l))
left_most a [] h = omega arith
left_most a (b ∷ l) h = by (left_most a l h.1) (eqb a b) refl
  where
    by : length l ≤ suc (length (without a l)) → (c : Bool) → eqb a b ≡ c →
        suc (length l) ≤ suc (length (elim c as (λ _. List ℕ) [ true ↦ without a l | false ↦ b ∷ without a l ]))
    by more true e = omega (arith, left_all a l (λ i. h.0 (subst (λ z. Among z l) (eqb-true a b e) i)))
    by more false e = omega arith

below : (n y : ℕ) → y < suc n → (y ≡ n → ⊥) → y < n
below n y h d = omega arith

-- Places below n, none of them twice, are at most n.
pub at_most : (n : ℕ) (l : List ℕ) → NoneTwice l → ((y : ℕ) → Among y l → y < n) → length l ≤ n
at_most n [] h k = omega arith
at_most zero (b ∷ l) h k = absurd (omega (arith, k b (inl refl)))
at_most (suc n) (b ∷ l) h k =
    omega (arith, left_most n (b ∷ l) h, at_most n (without n (b ∷ l)) (left_once n (b ∷ l) h) (λ y i. let j = left_in n (b ∷ l) y i in below n y (k y j.0) j.1))

-- How long a list is that stands turned round before another.
pub onto_length : (l m : List ℕ) → length (onto l m) ≡ length l + length m
onto_length [] m = omega arith
onto_length (a ∷ l) m = omega (arith, onto_length l (a ∷ m))

-- What stands in the two together stands in one of them.
pub onto_in : (y : ℕ) (l m : List ℕ) → Among y (onto l m) → Among y l ⊎ Among y m
onto_in y [] m h = inr h
onto_in y (a ∷ l) m h = ⊎_elim (λ i. inl (inr i)) (⊎_elim (λ e. inl (inl e)) inr) (onto_in y l (a ∷ m) h)

-- What the test finds is there.
member_in : (a : ℕ) (l : List ℕ) → member a l ≡ true → Among a l
member_in a [] e = absurd (false≢true e)
member_in a (b ∷ l) e = ⊎_elim (λ h. inl (eqb-true a b h)) (λ h. inr (member_in a l h)) (or_cases (eqb a b) (member a l) e)

-- What is in front and not in m stays.
front_stays : (l k m : List ℕ) → ((y : ℕ) → Among y l → Among y m → ⊥) → spliced (onto l k) m ≡ onto l (spliced k m)
front_stays [] k m h = refl
front_stays (a ∷ l) k m h = front_stays l (a ∷ k) m (λ y i. h y (inr i)) ∙ ap (onto l) (by (member a m) refl)
  where
    by : (b : Bool) → member a m ≡ b → elim b [ true ↦ from_place a m | false ↦ a ∷ spliced k m ] ≡ a ∷ spliced k m
    by true e = absurd (h a (inl refl) (member_in a m e))
    by false e = refl

-- Two lists that begin at the same place and share no other: the first turned round and spliced with the second is the rest
-- of the first turned round, and then the second.
pub splice_whole : (a : ℕ) (l m : List ℕ) → ((y : ℕ) → Among y l → Among y (a ∷ m) → ⊥) → spliced (onto (a ∷ l) []) (a ∷ m) ≡ onto l (a ∷ m)
splice_whole a l m h = front_stays l (a ∷ []) (a ∷ m) h ∙ ap (onto l) (by (member a (a ∷ m)) (or_left (eqb a a) (member a m) (eq-eqb a a refl)))
  where
    at : (b : Bool) → b ≡ true → elim b [ true ↦ a ∷ m | false ↦ from_place a m ] ≡ a ∷ m
    at true e = refl
    at false e = absurd (false≢true e)

    by : (b : Bool) → b ≡ true → elim b [ true ↦ from_place a (a ∷ m) | false ↦ a ∷ [] ] ≡ a ∷ m
    by true e = at (eqb a a) (eq-eqb a a refl)
    by false e = absurd (false≢true e)
