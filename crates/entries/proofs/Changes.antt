-- What the calls of a table make of its places.
use Rattle.std.proofs.Common.{◌≡◌, ℕ, ◌+◌, ◌<◌, ◌≤◌, eqb, ltb, List, [], ◌∷◌, ◌++◌, length, get_or, take, drop, set, position, is_some, Some, None, Ok, Err, Option, Result, sym, ap, ◌∙◌, subst, inl, inr, arith, MatchResult, length-append}
use Rattle.std.specs.List.{position_or_len}
use Rattle.std.proofs.lemmas.Bool.{cases_Bool, cases_lt, eqb-true, ltb-true, ltb-false}
use Rattle.std.proofs.lemmas.List.{get_or-take, length-set, length-take-le, set_past, take-set-le, take_more, take_more_set, take-append-drop}
use Rattle.std.proofs.Math.Seq.{take-set-lt}
use Rattle.std.proofs.lemmas.List.Folds.{find_at}
use Rattle.std.proofs.lemmas.List.Quantifiers.{position-Some}
use Rattle.std.proofs.lemmas.Option.{cond_some, none-some, slice_get_past, slice_get_cases}
use Rattle.entries.specs.Entries.{Kept, kept, entry_for, Found, Apart, Limited, Tidy, Put, Lost}
use Rattle.entries.proofs.Lists.{apart_push, put_push, apart_set, put_set, apart_moved, lost_moved}

-- what a search for a road finds
module _ {X : Type 0} (road_of : X → ℕ) (es : List X) (q : ℕ) where
  -- where it ends
  abbrev stop : ℕ
  stop = position_or_len (λ x. eqb (road_of x) q) es

  inside : (i : ℕ) → Some i ≡ position (λ x. eqb (road_of x) q) es → i < length es
  inside i e = let k = cond_some (ltb stop (length es)) stop i (sym e) in subst (λ n. n < length es) k.1 (ltb-true _ _ k.0)

  pub found : (o : Option ℕ) → o ≡ position (λ x. eqb (road_of x) q) es → Found road_of es q o
  unfolding entry_for
  found None e = find_at (λ x. eqb (road_of x) q) es ∙ elim (cases_Bool (ltb stop (length es))) [
    | inl t ↦ absurd (none-some stop (e ∙ rw t))
    | inr f ↦ slice_get_past es stop (ltb-false _ _ f)
  ]
  found (Some i) e = (inside i e, λ d. eqb-true _ _ (position-Some (λ x. eqb (road_of x) q) es i d (sym e)).1)

  pub own : (o : Option ℕ) → o ≡ position (λ x. eqb (road_of x) q) es → is_some o ≡ is_some (entry_for road_of es q)
  unfolding entry_for
  own None e = sym (ap is_some (found None e))
  own (Some i) e = elim (slice_get_cases es stop).1 [
    | inl s ↦ sym (ap is_some (find_at (λ x. eqb (road_of x) q) es ∙ s.2))
    | inr s ↦ let l = inside i e in let k = cond_some (ltb stop (length es)) stop i (sym e) in let no' : ⊥ = omega arith in absurd no'
  ]

take_set : {X : Type 0} (xs : List X) (k i : ℕ) (x : X) → k ≤ length xs → take k (set xs i x) ≡ set (take k xs) i x
take_set xs k i x l = elim (cases_lt i k) [
  | inl lt ↦ take-set-lt k xs i x lt
  | inr le ↦ take-set-le k xs i x le ∙ sym (set_past (take k xs) i x (omega (arith, length-take-le k xs l)))
]

-- what a table keeps is limited
pub limited : {X : Type 0} (road_of : X → ℕ) (n : ℕ) (places : List X) → Tidy road_of n places → Limited road_of (kept n places)
limited road_of n places tidy = record {
  wide = sym (length-append (take n places) (drop n places)) ∙ ap length (take-append-drop n places) ∙ tidy.wide;
  few = let long = length-take-le n places (omega (arith, tidy.few, tidy.wide)) in omega (arith, long, tidy.few);
  distinct = tidy.distinct;
}

-- the first n places of a table that keeps t are in use
pub record InUse {X : Type 0} (road_of : X → ℕ) (places : List X) (n : ℕ) (t : Kept X) : Type 0 where
  pub tidy : Tidy road_of n places
  pub view : kept n places ≡ t

module _ {X : Type 0} {road_of : X → ℕ} {places : List X} {n : ℕ} {t : Kept X} (u : InUse road_of places n t) where
  -- its entries
  abbrev es : List X
  es = t.used

  pub limits : Limited road_of t
  limits = subst (Limited road_of) u.view (limited road_of n places u.tidy)

  used : take n places ≡ es
  used = ap (λ k. k.used) u.view

  pub apart : Apart road_of es
  apart = limits.distinct

  pub many : length es ≡ n
  many = sym (ap length used) ∙ length-take-le n places (omega (arith, u.tidy.few, u.tidy.wide))

  -- the entry at i is rewritten
  module _ (i : ℕ) (x : X) (within : i < length es) (same : (d : X) → road_of (get_or es i d) ≡ road_of x) where
    now : take n (set places i x) ≡ set es i x
    now = take_set places n i x (omega (arith, u.tidy.few, u.tidy.wide)) ∙ ap (λ l. set l i x) used

    tidy_rewritten : Tidy road_of n (set places i x)
    tidy_rewritten = record {
      wide = simp length-set u.tidy.wide;
      few = u.tidy.few;
      distinct = subst (Apart road_of) (sym now) (apart_set road_of es i x within same apart);
    }

    put_rewritten : Put road_of es (take n (set places i x)) x
    put_rewritten = subst (λ l. Put road_of es l x) (sym now) (put_set road_of es i x within same apart)

  -- or refuses to be
  module _ (i : ℕ) (e : X) (within : i < length es) (same : (z : X) → road_of (get_or es i z) ≡ road_of e) where
    pub stood : (d : X) → road_of (get_or places i d) ≡ road_of e
    stood d = ap road_of (sym (get_or-take n places i d (omega (arith, many))) ∙ ap (λ l. get_or l i d) used) ∙ same d

    pub tidy_renewed : {R : Type 0} (a : Result Unit R) (ys : List X) → MatchResult a (λ _. ys ≡ set places i e) (λ _. ys ≡ places) → Tidy road_of n ys
    tidy_renewed (Ok _) ys k = subst (Tidy road_of n) (sym k) (tidy_rewritten i e within same)
    tidy_renewed (Err _) ys k = subst (Tidy road_of n) (sym k) u.tidy

    pub put_renewed : {R : Type 0} (a : Result Unit R) (ys : List X) → MatchResult a (λ _. ys ≡ set places i e) (λ _. ys ≡ places) →
        MatchResult a (λ _. Put road_of es (take n ys) e) (λ _. kept n ys ≡ t)
    put_renewed (Ok _) ys k = subst (λ l. Put road_of es (take n l) e) (sym k) (put_rewritten i e within same)
    put_renewed (Err _) ys k = ap (kept n) k ∙ u.view

  -- there is one more entry
  module _ (x : X) (free : entry_for road_of es (road_of x) ≡ None) (room : n < 64) where
    grown : take (n + 1) (set places n x) ≡ es ++ x ∷ []
    grown = take_more_set places n x (omega (arith, u.tidy.wide)) ∙ ap (λ l. l ++ x ∷ []) used

    pub tidy_pushed : Tidy road_of (n + 1) (set places n x)
    tidy_pushed = record {
      wide = simp length-set u.tidy.wide;
      few = omega arith;
      distinct = subst (Apart road_of) (sym grown) (apart_push road_of es x free apart);
    }

    pub put_pushed : Put road_of es (take (n + 1) (set places n x)) x
    put_pushed = subst (λ l. Put road_of es l x) (sym grown) (put_push road_of es x free)

  -- the last of k + 1 entries is moved to i
  module _ (k i : ℕ) (d : X) (one : n ≡ k + 1) (within : i < length es) where
    abbrev last : X
    last = get_or places k d

    cut : take k places ++ last ∷ [] ≡ es
    cut = sym (take_more places k d (omega (arith, u.tidy.few, u.tidy.wide))) ∙ ap (λ m. take m places) (sym one) ∙ used

    left : take k (set places i last) ≡ set (take k places) i last
    left = take_set places k i last (omega (arith, u.tidy.few, u.tidy.wide))

    low : i ≤ length (take k places)
    low = omega (arith, many, length-take-le k places (omega (arith, u.tidy.few, u.tidy.wide)))

    pub tidy_freed : Tidy road_of k (set places i last)
    tidy_freed = record {
      wide = simp length-set u.tidy.wide;
      few = omega (arith, u.tidy.few);
      distinct = subst (Apart road_of) (sym left) (apart_moved road_of (take k places) i last low (subst (Apart road_of) (sym cut) apart));
    }

    pub lost_freed : (r : ℕ) → ((z : X) → road_of (get_or es i z) ≡ r) → Lost road_of es (take k (set places i last)) r
    lost_freed r is =
        let gone = lost_moved road_of (take k places) i last low (subst (Apart road_of) (sym cut) apart) r (subst (λ l. (z : X) → road_of (get_or l i z) ≡ r) (sym cut) is) in
        subst (λ l. Lost road_of l (take k (set places i last)) r) cut (subst (λ l. Lost road_of (take k places ++ last ∷ []) l r) (sym left) gone)
