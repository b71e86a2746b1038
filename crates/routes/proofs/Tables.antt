-- The table's laws from those of its prepared rows: a row that is not prepared is free, and says nothing.
use Rattle.std.proofs.Common.{◌≡◌, ℕ, ◌<◌, Bool, true, false, ◌⊎◌, sym, subst, inr, ⊎_elim, arith}
use Rattle.std.proofs.lemmas.Bool.{cases_Bool}
use Rattle.routes.specs.Costs.{Costs, Priced}
use Rattle.routes.specs.Walks.{Roads, Walk}
use Rattle.routes.proofs.Sums

module _ (C : Costs) (B : Roads C) (size : ℕ) (district : ℕ → ℕ) (prepared : ℕ → Bool) (entry : ℕ → ℕ → C.Cost) where
  open C use {Cost, ◌≼◌, free, blocked}

  infix 40 ◌≼◌
  module _ (idle : (i j : ℕ) → prepared i ≡ false → entry i j ≡ free) where
    free_open : blocked ≼ free → ⊥
    free_open e = Sums.few_open C free (Sums.priced_more C 0 4096 free (omega arith) (Sums.priced_free C)) e

    pub low : ((a b : ℕ) (c : Cost) → prepared (district a) ≡ true → a < size → b < size → Walk C B a b c → entry (district a) (district b) ≼ c) →
        (a b : ℕ) (c : Cost) → a < size → b < size → Walk C B a b c → entry (district a) (district b) ≼ c
    low h a b c i j w = ⊎_elim (λ p. h a b c p i j w) (λ p. subst (λ z. z ≼ c) (sym (idle _ _ p)) (Sums.free_least C c)) (cases_Bool (prepared (district a)))

    pub none : ((a b : ℕ) (c : Cost) → prepared (district a) ≡ true → a < size → b < size → Walk C B a b c → blocked ≼ entry (district a) (district b) → ⊥) →
        (a b : ℕ) (c : Cost) → a < size → b < size → Walk C B a b c → blocked ≼ entry (district a) (district b) → ⊥
    none h a b c i j w e = ⊎_elim (λ p. h a b c p i j w e) (λ p. free_open (subst (λ z. blocked ≼ z) (idle _ _ p) e)) (cases_Bool (prepared (district a)))

    pub listed : ((a b : ℕ) → prepared (district a) ≡ true → a < size → b < size → (blocked ≼ entry (district a) (district b)) ⊎ Priced C 1024 (entry (district a) (district b))) →
        (a b : ℕ) → a < size → b < size → (blocked ≼ entry (district a) (district b)) ⊎ Priced C 1024 (entry (district a) (district b))
    listed h a b i j =
        ⊎_elim (λ p. h a b p i j) (λ p. inr (subst (Priced C 1024) (sym (idle _ _ p)) (Sums.priced_more C 0 1024 free (omega arith) (Sums.priced_free C)))) (cases_Bool (prepared (district a)))
