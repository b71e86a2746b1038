-- The numbers of a range that pass a test.
use Rattle.std.specs.Prelude.{ℕ, zero, suc, Bool, cond, List, [], ◌∷◌, Some, None, Option}

-- Those of the `count` numbers from `from` on that pass, rising.
abbrev pub picked : (ℕ → Bool) → ℕ → ℕ → List ℕ
picked passes from zero = []
picked passes from (suc count) = cond (passes from) (from ∷ picked passes (suc from) count) (picked passes (suc from) count)

-- The first of the `count` numbers from `from` on that passes.
abbrev pub first : (ℕ → Bool) → ℕ → ℕ → Option ℕ
first passes from zero = None
first passes from (suc count) = cond (passes from) (Some from) (first passes (suc from) count)
