-- How many numbers pass a test, when the test changes at one of them.
use Rattle.std.proofs.Common.{◌≡◌, ℕ, zero, suc, ◌+◌, ◌<◌, Bool, true, false, cond, refl, inl, inr, arith}
use Rattle.std.proofs.lemmas.Bool.{cases_eq}
use Rattle.layers.specs.Histories.{many}

pub many_none : (f : ℕ → Bool) (n : ℕ) → ((q : ℕ) → f q ≡ false) → many f n ≡ 0
unfolding many
many_none f zero h = refl
many_none f (suc n) h = rw (h n) (let k = many_none f n h in omega arith)

pub many_same : (f g : ℕ → Bool) (n : ℕ) → ((q : ℕ) → q < n → g q ≡ f q) → many g n ≡ many f n
unfolding many
many_same f g zero h = refl
many_same f g (suc n) h = rw (h n (omega arith), many_same f g n (λ q l. h q (omega arith)))

-- the test is as it was but at r
pub many_step : (f g : ℕ → Bool) (r n : ℕ) → r < n → ((q : ℕ) → (q ≡ r → ⊥) → g q ≡ f q) → many g n + cond (f r) 1 0 ≡ many f n + cond (g r) 1 0
unfolding many
many_step f g r zero l h = let no' : ⊥ = omega arith in absurd no'
many_step f g r (suc n) l h = elim (cases_eq n r) [
  | inl e ↦
      let k = many_same f g n (λ q lt. h q (λ (z : q ≡ r). let no' : ⊥ = omega arith in no')) in
      rw (e, ← e, k) (omega arith)
  | inr ne ↦
      let k = many_step f g r n (omega arith) h in
      rw (h n ne) (omega arith)
]

-- the test passes at r, where it did not, and is as it was elsewhere
pub many_more : (f g : ℕ → Bool) (r n : ℕ) → r < n → f r ≡ false → g r ≡ true → ((q : ℕ) → (q ≡ r → ⊥) → g q ≡ f q) → many g n ≡ many f n + 1
many_more f g r n l a b h = let s = rw (a, b) at (many_step f g r n l h) in omega arith
