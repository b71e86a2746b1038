-- What checks answer, by their judgements.
use Rattle.std.proofs.Common.{◌≡◌, ℕ, ◌+◌, ◌<◌, ◌≤◌, Bool, true, false, List, ◌∷◌, IsErrAnd, Some, None, Ok, Err, Option, Result, sym, refl, ap, ◌∙◌, arith}
use Rattle.std.proofs.lemmas.Result.{err_from_is_err_and}
use Rattle.format.specs.declared.Refusal.{Refusal}
use Rattle.format.specs.Picks.{first}
use Rattle.format.specs.Reading.{and_then, verdict, field, walked}
use Rattle.format.proofs.Picks.{In, NoneOf, first_none, first_found}

-- a loop over the numbers below n that stops at the first that fails
module _ (fails : ℕ → Bool) (n : ℕ) where
  below : (k : ℕ) → k < n → In 0 n k
  below k l = record { from = omega arith; below = omega arith }

  none_below : ((i : ℕ) → 0 ≤ i → i < n → fails i ≡ false) → NoneOf fails 0 n
  none_below h i l u = h i l (omega arith)

  pub stops_at : (k : ℕ) → k < n → fails k ≡ true → ((i : ℕ) → 0 ≤ i → i < k → fails i ≡ false) → first fails 0 n ≡ Some k
  stops_at k l t h = first_found fails 0 n k (below k l) t h

  pub runs_out : ((i : ℕ) → 0 ≤ i → i < n → fails i ≡ false) → first fails 0 n ≡ None
  runs_out h = first_none fails 0 n (none_below h)

-- one judgement after another
pub goes_on : {A : Type 0} (x : Option Refusal) (a v : A) → Ok v ≡ verdict x a → (x ≡ None) × (v ≡ a)
goes_on None a v e = (refl, cc)
goes_on (Some r) a v e = let z : ◌≡◌ {A = ℕ} 0 1 = cc in absurd (omega arith)

pub stops : {A B : Type 0} (x y : Option Refusal) (a : A) (b : B) (r : Refusal) → Err r ≡ verdict x a → Err r ≡ verdict (and_then x y) b
stops None y a b r e = let z : ◌≡◌ {A = ℕ} 0 1 = cc in absurd (omega arith)
stops (Some q) y a b r e = let s : r ≡ q = cc in ap Err s

pub next : (x y : Option Refusal) → x ≡ None → and_then x y ≡ y
next x y e = rw e

-- the exit of a `?` after the judgement x
pub exit : {A B : Type 0} (out : Result B Refusal) (e : Refusal) → IsErrAnd out (λ y. y ≡ e) → (x y : Option Refusal) (a : A) (b : B) →
    Err e ≡ verdict x a → out ≡ verdict (and_then x y) b
exit out e h x y a b k = let p = err_from_is_err_and out h in p.1 ∙ ap Err p.2 ∙ stops x y a b e k

-- walking on, field by field: of the judgement x these fields are left, from the offset o on
pub record Left (b : List ℕ) (x : Option Refusal) (o : ℕ) (rest : List (ℕ × ℕ)) : Type 0 where
  pub is : x ≡ walked b o rest

module _ {b : List ℕ} {x : Option Refusal} where
  pub step : {o tag size : ℕ} {rest : List (ℕ × ℕ)} → Left b x o ((tag, size) ∷ rest) → {o' : ℕ} → Ok o' ≡ verdict (field b o tag size) (o + 3 + size) → Left b x o' rest
  step {o} {tag} {size} {rest} h {o'} e = let k = goes_on (field b o tag size) (o + 3 + size) o' e in
      record { is = h.is ∙ next (field b o tag size) (walked b (o + 3 + size) rest) k.0 ∙ ap (λ n. walked b n rest) (sym k.1) }
