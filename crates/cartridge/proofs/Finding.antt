-- What the library finds in a list, by the first index that passes.
use Rattle.std.proofs.Common.{◌≡◌, true, false, ℕ, zero, suc, ◌+◌, ◌<◌, Bool, List, [], ◌∷◌, length, get_or, is_some, MatchOption, Some, None, Option, ◌≤◌, refl, sym, ap, ◌∙◌, add-zero, inl, inr, arith}
use Rattle.std.specs.List.{list_any, AllWithin, HoldsAt}
use Rattle.std.proofs.lemmas.Bool.{cases_Bool}
use Rattle.format.specs.Picks.{first}
use Rattle.format.proofs.Verdicts.{stops_at, runs_out}

pub any_first : (q t : ℕ → Bool) (xs : List ℕ) (from n : ℕ) → length xs ≡ n → ((p : ℕ) → p < n → q (get_or xs p 0) ≡ t (from + p)) → list_any q xs ≡ is_some (first t from n)
any_first q t [] from zero e h = refl
any_first q t [] from (suc n) e h = absurd (omega arith)
any_first q t (x ∷ xs) from zero e h = absurd (omega arith)
any_first q t (x ∷ xs) from (suc n) e h =
    let here = rw add-zero at (h 0 (omega arith)) in
    let later = any_first q t xs (suc from) n (omega arith) (λ p l. let s : from + suc p ≡ suc from + p = omega arith in h (suc p) (omega arith) ∙ ap t s) in
    elim (cases_Bool (t from)) [
      | inl u ↦ rw (here, u)
      | inr u ↦ rw (here, u) later
    ]

-- the place of the first element that passes
pub position_first : (t : ℕ → Bool) (at : ℕ → ℕ) (xs : List ℕ) (n : ℕ) → length xs ≡ n → ((p : ℕ) → p < n → get_or xs p 0 ≡ at p) → (o : Option ℕ) →
    MatchOption o (AllWithin (λ d. t d ≡ false) xs 0 (length xs)) (λ i. (i < length xs) × HoldsAt (λ d. t d ≡ true) xs i × AllWithin (λ d. t d ≡ false) xs 0 i) →
    o ≡ first (λ p. t (at p)) 0 n
position_first t at xs n e each None h = sym (runs_out (λ p. t (at p)) n (λ i l u. rw (each i u) at (h i 0 l (omega arith))))
position_first t at xs n e each (Some k) h =
    let l = h.0 in
    sym (stops_at (λ p. t (at p)) n k (omega arith) (rw (each k (omega arith)) at (h.1 0)) (λ i l u. rw (each i (omega arith)) at (h.2 i 0 l u)))

-- the first number of a range that passes
pub range_first : (t : ℕ → Bool) (n : ℕ) (o : Option ℕ) →
    MatchOption o ((k : ℕ) → 0 ≤ k → k < n → t k ≡ false) (λ i. (0 ≤ i) × (i < n) × (t i ≡ true) × ((k : ℕ) → 0 ≤ k → k < i → t k ≡ false)) → o ≡ first t 0 n
range_first t n None h = sym (runs_out t n h)
range_first t n (Some k) h = sym (stops_at t n k h.1 h.2 h.3)
