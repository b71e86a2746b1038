-- Two halves of a route in one list.
use Rattle.std.proofs.Common.{◌≡◌, ℕ, suc, ◌+◌, ◌-◌, ◌≤◌, List, [], ◌∷◌, ◌++◌, reverse, length, take, drop, sym, refl, ap, ◌∙◌, subst, ap₂, append_assoc, append-nil, arith, length-append, length-drop}
use mathlib.Core.List.{reverse-cons}
use Rattle.std.proofs.lemmas.List.{length-reverse, drop-drop, take-append-le, length-take-le, take_all, drop_all}
use Rattle.std.proofs.lemmas.Slice.{drop-append-drop}
use borrow.Rule.Slice.PartMut.{mid_of, post_of, put_mid}
use Rattle.fringe.specs.declared.place.Place.{Place}
use Rattle.routes.specs.Routes.{onto}
use Rattle.routes.proofs.Distinct.{onto_length}
use Rattle.tracing.specs.Listings.{numbers, Listed}
use Rattle.tracing.proofs.Numbers.{numbers_++}

-- the first list turned round, before the second
onto_is : (l m : List ℕ) → onto l m ≡ onto l [] ++ m
onto_is [] m = refl
onto_is (x ∷ l) m = onto_is l (x ∷ m) ∙ sym (append_assoc (onto l []) (x ∷ []) m) ∙ ap (λ z. z ++ m) (sym (onto_is l (x ∷ [])))

numbers_turned : (q : List Place) → numbers (reverse q) ≡ onto (numbers q) []
numbers_turned [] = refl
numbers_turned (p ∷ q) =
    ap numbers (reverse-cons p q) ∙ numbers_++ (reverse q) (p ∷ []) ∙ ap (λ z. z ++ (p.0 ∷ [])) (numbers_turned q) ∙ sym (onto_is (numbers q) (p.0 ∷ []))

-- the first places of a list and what follows
take_front : {A : Type 0} (k : ℕ) (a b : List A) → length a ≡ k → (c : ℕ) → take (k + c) (a ++ b) ≡ a ++ take c b
take_front k [] b e c = ap (λ z. take z b) (omega (arith, e))
take_front k (x ∷ a) b e c =
    let j : k ≡ suc (length a) = omega (arith, e) in
    let z : k + c ≡ suc (length a + c) = omega (arith, j) in
    ap (λ w. take w (x ∷ (a ++ b))) z ∙ ap (λ w. x ∷ w) (take_front (length a) a b refl c)

drop_front : {A : Type 0} (k : ℕ) (a b : List A) → length a ≡ k → (c : ℕ) → drop (k + c) (a ++ b) ≡ drop c b
drop_front k [] b e c = ap (λ z. drop z b) (omega (arith, e))
drop_front k (x ∷ a) b e c =
    let j : k ≡ suc (length a) = omega (arith, e) in
    let z : k + c ≡ suc (length a + c) = omega (arith, j) in
    ap (λ w. drop w (x ∷ (a ++ b))) z ∙ drop_front (length a) a b refl c

-- the list without its head, turned round
without : (met : ℕ) (front : List Place) (meet : ℕ) (rest : List ℕ) → numbers front ≡ meet ∷ rest → met ≡ length front → numbers (take (met - 1) (reverse front)) ≡ onto rest []
without met [] meet rest e l = absurd (let z : length (numbers []) ≡ suc (length rest) = ap length e in omega (arith, z))
without met (p ∷ q) meet rest e l =
    let tail_is : numbers q ≡ rest = cc e in
    let k : met - 1 ≡ length (reverse q) = let z = length-reverse q in omega (arith, l, z) in
    ap numbers (ap₂ take k (reverse-cons p q) ∙ ap (λ w. take w (reverse q ++ (p ∷ []))) zero_more ∙ take_front (length (reverse q)) (reverse q) (p ∷ []) refl 0 ∙ append-nil (reverse q))
    ∙ numbers_turned q ∙ ap (λ z. onto z []) tail_is
  where
    zero_more : length (reverse q) ≡ length (reverse q) + 0
    zero_more = omega arith

-- the forward half was written down from the meeting place, turned round, and followed by the backward half
module _ (meet : ℕ) (rest others : List ℕ) (before : List Place) (met : ℕ) (traced : List Place) (listed : Listed (meet ∷ rest) before traced met) (long : met ≤ length traced)
    (turned : List Place) (turned_is : turned ≡ reverse (take met traced)) (ahead : List Place) (count : ℕ)
    (then : Listed (meet ∷ others) (drop (met - 1) (turned ++ drop met traced)) ahead count) where
  abbrev both : List Place
  both = take (met - 1) (turned ++ drop met traced) ++ ahead

  turned_length : length turned ≡ met
  turned_length = ap length turned_is ∙ length-reverse (take met traced) ∙ length-take-le met traced long

  met_is : met ≡ suc (length rest)
  met_is = listed.count_is

  front : take (met - 1) (turned ++ drop met traced) ≡ take (met - 1) turned
  front = take-append-le (met - 1) turned (drop met traced) (let l = turned_length in omega (arith, l))

  front_length : length (take (met - 1) (turned ++ drop met traced)) ≡ met - 1
  front_length = ap length front ∙ length-take-le (met - 1) turned (let l = turned_length in omega (arith, l))

  front_is : numbers (take (met - 1) (turned ++ drop met traced)) ≡ onto rest []
  front_is = ap numbers (front ∙ ap (take (met - 1)) turned_is) ∙ without met (take met traced) meet rest listed.first (sym (length-take-le met traced long))

  counted : met - 1 + count ≡ length (onto rest (meet ∷ others))
  counted = let a = met_is in let b = then.count_is in let c = onto_length rest (meet ∷ others) in omega (arith, a, b, c)

  beyond : drop (met - 1 + count) both ≡ drop (met - 1 + count) before
  beyond =
      drop_front (met - 1) (take (met - 1) (turned ++ drop met traced)) ahead front_length count ∙ then.rest ∙ drop-drop count (met - 1) (turned ++ drop met traced)
      ∙ drop-append-drop met traced turned (met - 1 + count) (let a = met_is in let b = then.count_is in omega (arith, a, b)) turned_length
      ∙ sym (ap (λ z. drop z traced) apart) ∙ sym (drop-drop (count - 1) met traced) ∙ ap (drop (count - 1)) listed.rest ∙ drop-drop (count - 1) met before ∙ ap (λ z. drop z before) apart
    where
      apart : met + (count - 1) ≡ met - 1 + count
      apart = let a = met_is in let b = then.count_is in omega (arith, a, b)

  pub halves_listed : Listed (onto rest (meet ∷ others)) before both (met - 1 + count)
  halves_listed = record {
    count_is = counted;
    first = ap numbers (take_front (met - 1) (take (met - 1) (turned ++ drop met traced)) ahead front_length count)
        ∙ numbers_++ (take (met - 1) (turned ++ drop met traced)) (take count ahead) ∙ ap₂ (λ a b. a ++ b) front_is then.first ∙ sym (onto_is rest (meet ∷ others));
    rest = beyond;
  }

-- the same, as parts of lent lists are put back
module _ (meet : ℕ) (rest others : List ℕ) (before : List Place) (met : ℕ) (traced : List Place) (listed : Listed (meet ∷ rest) before traced met) (long : met ≤ length traced)
    (turned : List Place) (turned_is : turned ≡ reverse (mid_of 0 (met - 0) traced)) where
  abbrev whole : List Place
  whole = turned ++ post_of 0 (met - 0) traced

  abbrev left : ℕ
  left = length whole - (met - 1)

  all : met - 0 ≡ met
  all = omega arith

  whole_is : whole ≡ turned ++ drop met traced
  whole_is = ap (λ k. turned ++ drop k traced) all

  part_is : mid_of (met - 1) left whole ≡ drop (met - 1) whole
  part_is = take_all left (drop (met - 1) whole) (let l = length-drop (met - 1) whole in omega (arith, l))

  after_none : post_of (met - 1) left whole ≡ []
  after_none = drop_all left (drop (met - 1) whole) (let l = length-drop (met - 1) whole in omega (arith, l))

  turned_is' : turned ≡ reverse (take met traced)
  turned_is' = turned_is ∙ ap (λ k. reverse (take k traced)) all

  -- the room that is left for the second half
  pub part_length : length (mid_of (met - 1) left whole) ≡ length traced - (met - 1)
  part_length =
      ap length (part_is ∙ ap (drop (met - 1)) whole_is) ∙ length-drop (met - 1) (turned ++ drop met traced)
      ∙ ap (λ k. k - (met - 1)) (length-append turned (drop met traced) ∙ same)
    where
      same : length turned + length (drop met traced) ≡ length traced
      same =
          let a : length turned ≡ met = ap length turned_is' ∙ length-reverse (take met traced) ∙ length-take-le met traced long in
          let b = length-drop met traced in
          omega (arith, a, b, long)

  pub halves_put : (ahead : List Place) (count : ℕ) → Listed (meet ∷ others) (mid_of (met - 1) left whole) ahead count →
      Listed (onto rest (meet ∷ others)) before (put_mid (met - 1) left whole ahead) (met - 1 + count)
  halves_put ahead count then =
      subst (λ z. Listed (onto rest (meet ∷ others)) before z (met - 1 + count)) (sym put_is)
      (halves_listed meet rest others before met traced listed long turned turned_is' ahead count (subst (λ z. Listed (meet ∷ others) z ahead count) (part_is ∙ ap (drop (met - 1)) whole_is) then))
    where
      put_is : put_mid (met - 1) left whole ahead ≡ take (met - 1) (turned ++ drop met traced) ++ ahead
      put_is = ap (λ z. take (met - 1) whole ++ (ahead ++ z)) after_none ∙ ap (λ z. take (met - 1) whole ++ z) (append-nil ahead) ∙ ap (λ z. take (met - 1) z ++ ahead) whole_is

-- the same list by another name
pub relisted : {route route' : List ℕ} {before after : List Place} {count : ℕ} → route' ≡ route → Listed route before after count → Listed route' before after count
relisted {before} {after} {count} e l = subst (λ z. Listed z before after count) (sym e) l
