-- How many districts have a first place.
use Rattle.std.proofs.Common.{◌≡◌, ℕ, zero, suc, ◌+◌, ◌<◌, ◌≤◌, Bool, true, false, cond, sym, refl, ap, subst, ⊎_elim, arith}
use mathlib.Core.Option.{Option as Maybe, some, none}
use Rattle.std.proofs.lemmas.Bool.{cases_eq, cond-true}
use Rattle.routes.specs.States.{Label, Blank, Reached, Settled}
use Rattle.routes.specs.Kept.{weight, tally}
use Rattle.routes.proofs.Tally.{tally_le}
use Rattle.preparing.specs.Rows.{linked}

abbrev pub there : Maybe ℕ → ℕ
there none = 0
there (some v) = 1

there_le : (o : Maybe ℕ) → there o ≤ 1
there_le none = omega arith
there_le (some v) = omega arith

-- how many of the first n have one
abbrev pub count : (ℕ → Maybe ℕ) → ℕ → ℕ
count f zero = 0
count f (suc n) = there (f n) + count f n

pub count_none : (f : ℕ → Maybe ℕ) (n : ℕ) → ((j : ℕ) → f j ≡ none) → count f n ≡ 0
count_none f zero h = refl
count_none f (suc n) h = omega (arith, count_none f n h, ap there (h n))

count_same : (f f' : ℕ → Maybe ℕ) (n : ℕ) → ((j : ℕ) → j < n → f' j ≡ f j) → count f' n ≡ count f n
count_same f f' zero h = refl
count_same f f' (suc n) h = omega (arith, count_same f f' n (λ j l. h j (omega arith)), ap there (h n (omega arith)))

-- where at most one changes there is at most one more
pub count_more : (f f' : ℕ → Maybe ℕ) (u n : ℕ) → ((j : ℕ) → (u ≡ j → ⊥) → f' j ≡ f j) → count f' n ≤ count f n + 1
count_more f f' u zero h = omega arith
count_more f f' u (suc n) h = ⊎_elim
    (λ (e : u ≡ n). omega (arith, there_le (f' n), count_same f f' n (λ j l. h j (λ s. omega (arith, s, e, l)))))
    (λ x. omega (arith, count_more f f' u n h, ap there (h n x)))
    (cases_eq u n)

-- there are no more linked districts than those that have one
pub linked_le : {K T : Type 0} (thing : K → T) (leq : T → T → Bool) (blocked : K) (entry : ℕ → K) (f : ℕ → Maybe ℕ) (n : ℕ) →
    ((j : ℕ) → j < n → f j ≡ none → leq (thing blocked) (thing (entry j)) ≡ true) → linked thing leq blocked entry n ≤ count f n
linked_le thing leq blocked entry f zero h = omega arith
linked_le thing leq blocked entry f (suc n) h =
    let here : cond (leq (thing blocked) (thing (entry n))) 0 1 ≤ there (f n) = by (f n) refl in
    omega (arith, here, linked_le thing leq blocked entry f n (λ j l. h j (omega (arith, l))))
  where
    at_most_one : (b : Bool) → cond b 0 1 ≤ 1
    at_most_one true = omega arith
    at_most_one false = omega arith

    by : (o : Maybe ℕ) → f n ≡ o → cond (leq (thing blocked) (thing (entry n))) 0 1 ≤ there o
    by none e = let z : ◌≡◌ {A = ℕ} (cond (leq (thing blocked) (thing (entry n))) 0 1) 0 = cond-true (leq (thing blocked) (thing (entry n))) 0 1 (h n (omega arith) e) in omega (arith, z)
    by (some v) e = at_most_one (leq (thing blocked) (thing (entry n)))

-- labels of which none is settled, and of which all are
module _ {K : Type 0} (f : ℕ → Label K) where
  pub tally_none : (n : ℕ) → ((v : ℕ) → v < n → weight (f v) ≡ 0) → tally f n ≡ 0
  tally_none zero h = refl
  tally_none (suc n) h = omega (arith, tally_none n (λ v l. h v (omega (arith, l))), h n (omega arith))

  pub tally_full : (n : ℕ) → tally f n ≡ n → (v : ℕ) → v < n → weight (f v) ≡ 1
  tally_full zero e v l = absurd (omega (arith, l))
  tally_full (suc n) e v l = let w = weight_le (f n) in ⊎_elim
      (λ (s : v ≡ n). subst (λ z. weight (f z) ≡ 1) (sym s) (omega (arith, e, w, tally_le f n)))
      (λ x. tally_full n (omega (arith, e, w, tally_le f n)) v (omega (arith, l, x)))
      (cases_eq v n)
    where
      weight_le : (l : Label K) → weight l ≤ 1
      weight_le Blank = omega arith
      weight_le (Reached c o) = omega arith
      weight_le (Settled c o) = omega arith
