-- Walking from field to field.
use Rattle.std.proofs.Common.{◌≡◌, ℕ, suc, ◌+◌, ◌<◌, ◌≤◌, List, [], ◌∷◌, length, get_or, drop, IsErrAnd, MatchResult, Some, None, Ok, Err, Option, Result, sym, ap, ◌∙◌, add-one, drop-cons, arith}
use Rattle.std.proofs.lemmas.Bool.{lt-leb, le-leb}
use Rattle.std.proofs.lemmas.List.{drop_all}
use Rattle.std.proofs.lemmas.Result.{err_from_is_err_and}
use Rattle.format.specs.declared.Refusal.{Refusal}
use Rattle.format.specs.declared.Refusal.TheVariants.{WrongTag}
use Rattle.format.specs.Reading.{and_then, verdict, field, walked}
use Rattle.format.proofs.Accepted.{field_there}
use Rattle.format.proofs.Verdicts.{Left, step, goes_on}

refused : {A : Type 0} (x : Option Refusal) (a : A) (e : Refusal) → Err e ≡ verdict x a → x ≡ Some e
refused None a e h = let z : ◌≡◌ {A = ℕ} 0 1 = cc in absurd (omega arith)
refused (Some r) a e h = let s : e ≡ r = cc in ap Some (sym s)

-- a field that was walked is there
pub field_ends : (b : List ℕ) (o tag size o' : ℕ) → Ok o' ≡ verdict (field b o tag size) (o + 3 + size) → o' ≤ length b
field_ends b o tag size o' e = let k = goes_on (field b o tag size) (o + 3 + size) o' e in rw k.1 (field_there b o tag size k.0)

module _ {b : List ℕ} {x : Option Refusal} (items : List (ℕ × ℕ)) (i : ℕ) (d : ℕ × ℕ) {o : ℕ} (h : Left b x o (drop i items)) (l : i < length items) where
  now : Left b x o (get_or items i d ∷ drop (suc i) items)
  now = record { is = rw (drop-cons items i d) at h.is }

  pub walks_on : {o' : ℕ} → Ok o' ≡ verdict (field b o (get_or items i d).0 (get_or items i d).1) (o + 3 + (get_or items i d).1) → Left b x o' (drop (i + 1) items)
  walks_on e = rw add-one (step now e)

  pub refuses_with : (e : Refusal) → Err e ≡ verdict (field b o (get_or items i d).0 (get_or items i d).1) (o + 3 + (get_or items i d).1) → x ≡ Some e
  refuses_with e k = now.is ∙ ap (λ y. and_then y (walked b (o + 3 + (get_or items i d).1) (drop (suc i) items))) (refused (field b o (get_or items i d).0 (get_or items i d).1) _ e k)

-- the exit of a `?`
pub leaves_with : {A : Type 0} (out : Result A Refusal) (P : A → Type 0) (x : Option Refusal) (e : Refusal) → IsErrAnd out (λ y. y ≡ e) → x ≡ Some e → MatchResult out P (λ y. x ≡ Some y)
leaves_with out P x e h k = let p = err_from_is_err_and out h in rw p.1 (k ∙ ap Some (sym p.2))

-- nothing is left but what stands after the last field
module _ {b : List ℕ} {x : Option Refusal} (items : List (ℕ × ℕ)) (i : ℕ) {o : ℕ} (h : Left b x o (drop i items)) (l : length items ≤ i) where
  ended : x ≡ walked b o []
  ended = h.is ∙ ap (walked b o) (drop_all i items l)

  pub done : length b ≤ o → x ≡ None
  done k = rw (ended, le-leb (length b) o k)

  pub goes_past : o < length b → x ≡ Some (WrongTag o)
  goes_past k = rw (ended, lt-leb (length b) o k)
