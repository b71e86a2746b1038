-- The numbers that a filter over a range keeps, counted.
use Rattle.std.proofs.Common.{◌≡◌, ℕ, zero, suc, ◌+◌, Bool, cond, length, refl, ap, ◌∙◌, add-one, arith}
use Rattle.std.specs.List.{filter, sum_by, range_with_len}
use Rattle.std.proofs.lemmas.List.{map-id}
use Rattle.std.proofs.lemmas.List.FromFn.{sum_by-map-range_with_len_more}
use Rattle.std.proofs.lemmas.List.Sums.{length-filter}
use Rattle.survey.specs.Counts.{count}

module _ (t : ℕ → Bool) where
  summed : (n : ℕ) → sum_by (λ x. cond (t x) 1 0) (range_with_len 0 n) ≡ count t n
  summed zero = refl
  summed (suc n) =
      let more = simp map-id at (sum_by-map-range_with_len_more (λ x. cond (t x) 1 0) (λ (x : ℕ). x) 0 n n (omega arith)) in
      rw add-one at more ∙ ap (λ k. k + cond (t n) 1 0) (summed n)

  pub counted : (n : ℕ) → length (filter t (range_with_len 0 n)) ≡ count t n
  counted n = length-filter t (range_with_len 0 n) ∙ summed n
