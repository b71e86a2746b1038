-- Time keeps the laws of a measure.
use Rattle.std.proofs.Common.{◌*◌, ◌≤◌, leb, List, [], ◌∷◌, length, arith, le-leb, leb-true}
use Rattle.measure.specs.Costs.{CostLaws, Figures, total}
use Rattle.measure.specs.Times.{time, seconds_of, add_time}

-- 4,096 times 60,000 seconds stay below blocked.
few_seconds : (roads : List Figures) → (total add_time (time 0) (λ s _. time s) roads).0 ≤ length roads * 60000
few_seconds [] = omega arith
few_seconds (r ∷ roads) = omega (arith, few_seconds roads, r.short)

pub time_laws : CostLaws seconds_of leb add_time (time 0) (time 4294967295) (λ s _. time s) seconds_of
time_laws = record {
  associative = λ a b c. omega arith;
  commutative = λ a b. omega arith;
  neutral = λ a. omega arith;
  first_part = λ a b. le-leb _ _ (omega arith);
  second_part = λ a b. le-leb _ _ (omega arith);
  monotone = λ a b c h. le-leb _ _ (omega (arith, leb-true _ _ h));
  greatest = λ a. le-leb _ _ (omega arith);
  absorbing = λ a. omega arith;
  passable = λ roads few e. omega (arith, few_seconds roads);
  slower = λ quick slow steepness h _ _. le-leb _ _ (omega arith);
  numbered = λ a b e. e;
}
