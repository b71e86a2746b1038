-- How many places are settled.
use Rattle.std.proofs.Common.{◌≡◌, ℕ, zero, suc, ◌<◌, ◌≤◌, refl, ap, subst, arith}
use native.Mathlib.Decide.{ℕ_discrete}
use Rattle.routes.specs.States.{Label, Blank, Reached, Settled, IsSettled}
use Rattle.routes.specs.Kept.{weight, tally}

module _ {K : Type 0} where
  weight_le : (l : Label K) → weight l ≤ 1
  weight_le Blank = omega arith
  weight_le (Reached c o) = omega arith
  weight_le (Settled c o) = omega arith

  pub weight_none : (l : Label K) → ((d : K) → IsSettled l d → ⊥) → weight l ≡ 0
  weight_none Blank h = refl
  weight_none (Reached c o) h = refl
  weight_none (Settled c o) h = absurd (h c refl)

  pub tally_le : (f : ℕ → Label K) (n : ℕ) → tally f n ≤ n
  tally_le f zero = omega arith
  tally_le f (suc n) = omega (arith, tally_le f n, weight_le (f n))

  pub tally_same : (f f' : ℕ → Label K) (n : ℕ) → ((v : ℕ) → v < n → weight (f' v) ≡ weight (f v)) → tally f' n ≡ tally f n
  tally_same f f' zero h = refl
  tally_same f f' (suc n) h = omega (arith, tally_same f f' n (λ v k. h v (omega arith)), h n (omega arith))

  -- one more place is settled
  pub tally_more : (f f' : ℕ → Label K) (u n : ℕ) → u < n → weight (f u) ≡ 0 → weight (f' u) ≡ 1 →
      ((v : ℕ) → (v ≡ u → ⊥) → f' v ≡ f v) → tally f' n ≡ suc (tally f n)
  tally_more f f' u zero l a b h = absurd (omega arith)
  tally_more f f' u (suc n) l a b h = by (ℕ_discrete n u) (tally_more f f' u n)
    where
      by : Dec (n ≡ u) → (u < n → weight (f u) ≡ 0 → weight (f' u) ≡ 1 → ((v : ℕ) → (v ≡ u → ⊥) → f' v ≡ f v) → tally f' n ≡ suc (tally f n)) →
          tally f' (suc n) ≡ suc (tally f (suc n))
      by (yes e) _ = rw e (omega (arith, subst (λ m. tally f' m ≡ tally f m) e (tally_same f f' n (λ v k. ap weight (h v (omega arith))))))
      by (no m) more = omega (arith, more (omega arith) a b h, ap weight (h n m))
