-- What a pair of numbers stands for, and how such pairs compare.
use Rattle.std.specs.Prelude.{ℕ, Bool, cond, ◌&&◌, ◌||◌, ◌==◌, nat_le, nat_lt}
use Rattle.fringe.specs.declared.pairs.Pair.{Pair}

-- Two numbers, the first of which counts first.
pub record Rank : Type 0 where
  pub first : ℕ
  pub second : ℕ

-- The lesser first number is less, and of equal ones the lesser second.
abbrev pub rank_leq : Rank → Rank → Bool
rank_leq a b = nat_lt a.first b.first || (a.first == b.first && nat_le a.second b.second)

-- A pair stands for its two numbers, but under the first number 65,535 the second counts for nothing.
abbrev pub rank_of : Pair → Rank
rank_of p = record { first = p.first; second = cond (p.first == 65535) 0 p.second }
