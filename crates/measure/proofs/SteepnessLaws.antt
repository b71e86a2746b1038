-- Steepness keeps the laws of a measure.
use Rattle.std.proofs.Common.{◌≤◌, leb, List, [], ◌∷◌, arith, le-leb, leb-true}
use Rattle.measure.specs.Costs.{CostLaws, Figures, total}
use Rattle.measure.specs.Steeps.{steep, per_mille_of, steeper}

-- No road is steeper than 1,000 per mille, so no way is.
never_steep : (roads : List Figures) → (total steeper (steep 0) (λ _ t. steep t) roads).0 ≤ 1000
never_steep [] = omega arith
never_steep (r ∷ roads) = omega (arith, never_steep roads, r.mild)

pub steepness_laws : CostLaws per_mille_of leb steeper (steep 0) (steep 65535) (λ _ t. steep t) per_mille_of
steepness_laws = record {
  associative = λ a b c. omega arith;
  commutative = λ a b. omega arith;
  neutral = λ a. omega arith;
  first_part = λ a b. le-leb _ _ (omega arith);
  second_part = λ a b. le-leb _ _ (omega arith);
  monotone = λ a b c h. le-leb _ _ (omega (arith, leb-true _ _ h));
  greatest = λ a. le-leb _ _ (omega arith);
  absorbing = λ a. omega arith;
  passable = λ roads few e. omega (arith, never_steep roads);
  slower = λ quick slow steepness h _ _. le-leb _ _ (omega arith);
  numbered = λ a b e. e;
}
