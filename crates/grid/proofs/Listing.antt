-- What the options of a list hold, in the words of the library.
use Rattle.std.proofs.Common.{◌≡◌, ℕ, zero, suc, List, [], ◌∷◌, length, slice_get, Some, None, Option, refl, sym, ap, ◌∙◌, inl, inr, arith}
use Rattle.std.specs.List.{flat_map}
use Rattle.std.specs.Option.{option_map, option_to_list}
use Rattle.std.proofs.lemmas.Bool.{cases_lt, lt-ltb, le-ltb}
use Rattle.map.specs.declared.numbers.RoadId.{RoadId}
use Rattle.map.specs.Grids.{present}
use Rattle.grid.specs.Sides.{nth}

abbrev road : ℕ → RoadId
road r = record { 0 = r }

present_flat : (os : List (Option ℕ)) → flat_map option_to_list os ≡ present os
present_flat [] = refl
present_flat (None ∷ os) = present_flat os
present_flat (Some x ∷ os) = ap (λ l. x ∷ l) (present_flat os)

nth_got : (l : List ℕ) (j : ℕ) → option_map road (slice_get l j) ≡ nth l j
nth_got [] j = rw (le-ltb j 0 (omega arith))
nth_got (x ∷ l) zero = rw (lt-ltb 0 (suc (length l)) (omega arith))
nth_got (x ∷ l) (suc j) = elim (cases_lt j (length l)) [
  | inl h ↦ rw (lt-ltb (suc j) (suc (length l)) (omega arith)) (nth_got l j ∙ rw (lt-ltb j (length l) h))
  | inr h ↦ rw (le-ltb (suc j) (suc (length l)) (omega arith)) (nth_got l j ∙ rw (le-ltb j (length l) h))
]

same : (o : Option ℕ) → option_map (λ x. x) o ≡ o
same None = refl
same (Some x) = refl

-- the j-th of what the options hold, as `flatten`, `nth` and `map` find it
pub nth_flat : (os : List (Option ℕ)) (j : ℕ) (o : Option ℕ) (r : Option RoadId) →
    option_map (λ x. x) o ≡ slice_get (flat_map option_to_list os) j → r ≡ option_map (λ n. record { 0 = n }) o → r ≡ nth (present os) j
nth_flat os j o r k m = m ∙ ap (option_map road) (sym (same o) ∙ k) ∙ rw (present_flat os) (nth_got (present os) j)
