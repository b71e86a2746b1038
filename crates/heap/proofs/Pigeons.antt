-- Numbers below n that are sent apart to numbers below m are at most m.
use Rattle.std.proofs.Common.{◌≡◌, ℕ, zero, suc, ◌<◌, ◌≤◌, cond, eqb, ⊎_elim, arith, eq-eqb, ne_eqb}
use Rattle.std.proofs.lemmas.Bool.{cases_eq}
use Rattle.std.proofs.lemmas.Bool.Decides.{nat_tests}

pub pigeons : (n m : ℕ) (f : ℕ → ℕ) → ((k : ℕ) → k < n → f k < m) → ((j k : ℕ) → j < n → k < n → f j ≡ f k → j ≡ k) → n ≤ m
pigeons zero m f into apart = omega arith
pigeons (suc n) zero f into apart = absurd (let h = into 0 (omega arith) in omega arith)
pigeons (suc n) (suc m) f into apart =
    let last = into n (omega arith) in
    let h = pigeons n m (λ k. cond (eqb (f k) m) (f n) (f k))
    (λ k l.
    let a = into k (omega arith) in
    let b : f k ≡ f n → ⊥ = λ e. let s = apart k n (omega arith) (omega arith) e in omega arith in
    ⊎_elim (λ (e : f k ≡ m). rw (eq-eqb (f k) m e) (omega (arith, b))) (λ x. rw (ne_eqb (f k) m x) (omega (arith, x))) (cases_eq (f k) m))
    (λ j k jl kl e.
    let a = apart j k (omega arith) (omega arith) in
    let b : f j ≡ f n → ⊥ = λ e. let s = apart j n (omega arith) (omega arith) e in omega arith in
    let c : f k ≡ f n → ⊥ = λ e. let s = apart k n (omega arith) (omega arith) e in omega arith in
    grind (arith, nat_tests)) in
    omega arith
