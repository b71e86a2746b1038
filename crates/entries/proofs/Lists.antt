-- Lists of entries, no two of them for one road: what a road finds there after one entry is added, rewritten or taken out.
use Rattle.std.proofs.Common.{◌≡◌, ℕ, zero, suc, ◌+◌, ◌<◌, ◌≤◌, ◌≢◌, Bool, true, false, cond, eqb, List, [], ◌∷◌, ◌++◌, length, get_or, set, find, Some, None, Option, ◌⊎◌, sym, refl, ap, ◌∙◌, subst, inl, inr, arith, length-append}
use Rattle.std.specs.List.{Any, list_any}
use Rattle.std.specs.Option.{option_or}
use Rattle.std.proofs.Math.ListN.{get_or-append}
use Rattle.std.proofs.Math.Seq.{get_or-append_seam}
use Rattle.std.proofs.lemmas.Bool.{cases_Bool, cases_eq, cases_order, eq-eqb, ne_eqb, eqb-true, eqb-false, true≢false}
use Rattle.std.proofs.lemmas.Bool.Decides.{nat_tests}
use Rattle.std.proofs.lemmas.List.{length-set, get_or-set_same, get_or-set_other}
use Rattle.std.proofs.lemmas.List.Folds.{find-append, find_past, Any-from_list_any, list_any_at}
use Rattle.std.proofs.lemmas.List.Quantifiers.{all_pairs_push}
use Rattle.std.proofs.lemmas.Option.{none-some}
use Rattle.entries.specs.Entries.{entry_for, Apart, Put, Lost}

-- ---- searches
module _ {X : Type 0} (p : X → Bool) where
  find_none : (xs : List X) → ((j : ℕ) (d : X) → j < length xs → p (get_or xs j d) ≡ false) → find p xs ≡ None
  find_none [] h = refl
  find_none (x ∷ xs) h = rw (h 0 x (omega arith)) (find_none xs (λ j d l. h (suc j) d (omega arith)))

  find_only : (xs : List X) (i : ℕ) (d : X) → i < length xs → p (get_or xs i d) ≡ true →
      ((j : ℕ) → j < length xs → p (get_or xs j d) ≡ true → j ≡ i) → find p xs ≡ Some (get_or xs i d)
  find_only [] i d l at only = let no' : ⊥ = omega arith in absurd no'
  find_only (x ∷ xs) zero d l at only = rw at
  find_only (x ∷ xs) (suc i) d l at only = elim (cases_Bool (p x)) [
    | inl t ↦ let z : 0 ≡ suc i = only 0 (omega arith) t in let no' : ⊥ = omega arith in absurd no'
    | inr f ↦ rw f (find_only xs i d (omega arith) at (λ j m e. let k : suc j ≡ suc i = only (suc j) (omega arith) e in omega arith))
  ]

  -- either none passes or some one does
  sought : (xs : List X) → ((j : ℕ) (d : X) → j < length xs → p (get_or xs j d) ≡ false) ⊎ Any (λ x. p x ≡ true) xs
  sought xs = elim (cases_Bool (list_any p xs)) [
    | inl t ↦ inr (Any-from_list_any p xs t)
    | inr f ↦ inl (λ j d l. elim (cases_Bool (p (get_or xs j d))) [
      | inl t ↦ absurd (true≢false (sym (list_any_at p xs j d l t) ∙ f))
      | inr g ↦ g
    ])
  ]

or_none : {X : Type 0} (o : Option X) → option_or o None ≡ o
or_none None = refl
or_none (Some x) = refl

module _ {X : Type 0} (road_of : X → ℕ) where
  -- whether an entry is for the road q
  abbrev is_for : ℕ → X → Bool
  is_for q x = eqb (road_of x) q

  -- a road has one place only
  once : (es : List X) (i j : ℕ) (d : X) → Apart road_of es → i < length es → j < length es → road_of (get_or es i d) ≡ road_of (get_or es j d) → i ≡ j
  once es i j d a l m e = elim (cases_order i j) [
    | inl same ↦ same
    | inr o ↦ elim o [ inl lt ↦ absurd (a i j d lt m e) | inr gt ↦ absurd (a j i d gt l (sym e)) ]
  ]

  pub reads_at : (es : List X) (i q : ℕ) (d : X) → Apart road_of es → i < length es → road_of (get_or es i d) ≡ q → entry_for road_of es q ≡ Some (get_or es i d)
  unfolding entry_for
  reads_at es i q d a l e = find_only (is_for q) es i d l (eq-eqb _ _ e) (λ j m t. once es j i d a m l (eqb-true _ _ t ∙ sym e))

  -- ---- one more entry at the end
  module _ (es : List X) (x : X) (free : entry_for road_of es (road_of x) ≡ None) where
    pub apart_push : Apart road_of es → Apart road_of (es ++ x ∷ [])
    apart_push a = all_pairs_push (λ y z. road_of y ≢ road_of z) es x a (λ k d l e. none-some (get_or es k d) (sym free ∙ reads_at es k (road_of x) d a l e))

    pub put_push : Put road_of es (es ++ x ∷ []) x
    unfolding entry_for
    put_push = record {
      reads = λ q. find-append (is_for q) es (x ∷ []) ∙ elim (cases_Bool (is_for q x)) [
        | inl t ↦ let none : find (is_for q) es ≡ None = ap (entry_for road_of es) (sym (eqb-true (road_of x) q t)) ∙ free in rw (none, t)
        | inr f ↦ rw f (or_none (find (is_for q) es))
      ];
      count = rw free (length-append es (x ∷ []));
      elsewhere = λ i d l n. get_or-append es (x ∷ []) d i l;
    }

  -- ---- an entry rewritten for the same road
  module _ (es : List X) (i : ℕ) (x : X) (within : i < length es) (same : (d : X) → road_of (get_or es i d) ≡ road_of x) where
    kept : (j : ℕ) (d : X) → road_of (get_or (set es i x) j d) ≡ road_of (get_or es j d)
    kept j d = elim (cases_eq j i) [
      | inl e ↦ rw e (ap road_of (get_or-set_same es i x d within) ∙ sym (same d))
      | inr n ↦ ap road_of (get_or-set_other es i j x d n)
    ]

    pub apart_set : Apart road_of es → Apart road_of (set es i x)
    apart_set a j k d lt m e = a j k d lt (rw length-set at m) (sym (kept j d) ∙ e ∙ kept k d)

    pub put_set : Apart road_of es → Put road_of es (set es i x) x
    unfolding entry_for
    put_set a = record {
      reads = λ q. elim (cases_Bool (is_for q x)) [
        | inl t ↦ rw t (reads_at (set es i x) i q x (apart_set a) (rw length-set within) (kept i x ∙ same x ∙ eqb-true _ _ t) ∙ ap Some (get_or-set_same es i x x within))
        | inr f ↦ rw f (find_past (is_for q) es i x x (ap (λ n. eqb n q) (same x) ∙ f) f)
      ];
      count = let there = reads_at es i (road_of x) x a within (same x) in rw (there, length-set) (omega arith);
      elsewhere = λ j d l n. get_or-set_other es i j x d (λ e. n (ap (λ k. road_of (get_or es k d)) e ∙ same d));
    }

  -- ---- an entry taken out, and the last one, y, moved into its place
  module _ (es : List X) (i : ℕ) (y : X) (within : i ≤ length es) (apart : Apart road_of (es ++ y ∷ [])) where
    abbrev whole : List X
    whole = es ++ y ∷ []

    -- where the entry stood that stands at j now
    abbrev from : ℕ → ℕ
    from j = cond (eqb j i) (length es) j

    moved : (j : ℕ) (d : X) → j < length es → get_or (set es i y) j d ≡ get_or whole (from j) d
    moved j d l = elim (cases_Bool (eqb j i)) [
      | inl t ↦ let e = eqb-true j i t in rw t (ap (λ k. get_or (set es i y) k d) e ∙ get_or-set_same es i y d (subst (λ k. k < length es) e l) ∙ sym (get_or-append_seam es y [] d))
      | inr f ↦ rw f (get_or-set_other es i j y d (eqb-false j i f) ∙ sym (get_or-append es (y ∷ []) d j l))
    ]

    long : length whole ≡ length es + 1
    long = length-append es (y ∷ [])

    inside : (j : ℕ) → j < length es → from j < length whole
    inside j l = elim (eqb j i) as (λ b. cond b (length es) j < length whole) [ true ↦ omega (arith, long) | false ↦ omega (arith, long) ]

    -- all but the one at i stand somewhere, and no two in one place
    away : (j : ℕ) → j < length es → from j ≢ i
    away j l e = elim (cases_Bool (eqb j i)) [
      | inl t ↦ let h = eqb-true j i t in let k : length es ≡ i = sym (ap (λ b. cond b (length es) j) t) ∙ e in let no' : ⊥ = omega arith in no'
      | inr f ↦ eqb-false j i f (sym (ap (λ b. cond b (length es) j) f) ∙ e)
    ]

    apart_from : (j k : ℕ) → j < length es → k < length es → j < k → from j ≢ from k
    apart_from j k l n lt = grind (arith, nat_tests)

    pub apart_moved : Apart road_of (set es i y)
    apart_moved j k d lt m e =
        let n : k < length es = rw length-set at m in
        let l : j < length es = omega arith in
        let one = once whole (from j) (from k) d apart (inside j l) (inside k n) (sym (ap road_of (moved j d l)) ∙ e ∙ ap road_of (moved k d n)) in
        apart_from j k l n lt one

    -- where an entry stands now that stood at m
    to : (m : ℕ) → m < length whole → m ≢ i → (j : ℕ) × (j < length es) × (from j ≡ m)
    to m l n = elim (cases_eq m (length es)) [
      | inl e ↦ (i, omega (arith, long), rw (eq-eqb i i refl) (sym e))
      | inr k ↦ (m, omega (arith, long), rw (ne_eqb m i n))
    ]

    pub lost_moved : (r : ℕ) → ((d : X) → road_of (get_or whole i d) ≡ r) → Lost road_of whole (set es i y) r
    unfolding entry_for
    lost_moved r is = record {
      there = rw (reads_at whole i r y apart (omega (arith, long)) (is y));
      reads = λ q. elim (cases_Bool (eqb r q)) [
        | inl t ↦ rw t (find_none (is_for q) (set es i y) (λ j d m. let l : j < length es = rw length-set at m in
            ne_eqb _ _ (λ e. away j l (once whole (from j) i d apart (inside j l) (omega (arith, long)) (sym (ap road_of (moved j d l)) ∙ e ∙ sym (eqb-true r q t) ∙ sym (is d))))))
        | inr f ↦ rw f (elim (sought (is_for q) whole) [
          | inl none ↦ find_none (is_for q) (set es i y) (λ j d m. let l : j < length es = rw length-set at m in ap (is_for q) (moved j d l) ∙ none (from j) d (inside j l))
              ∙ sym (find_none (is_for q) whole none)
          | inr (m, x, l, at, p) ↦
              let here : road_of (get_or whole m x) ≡ q = ap road_of at ∙ eqb-true _ _ p in
              let now = to m l (λ e. eqb-false r q f (sym (is x) ∙ ap (λ k. road_of (get_or whole k x)) (sym e) ∙ here)) in
              let stands : get_or (set es i y) now.0 x ≡ get_or whole m x = moved now.0 x now.1 ∙ ap (λ k. get_or whole k x) now.2 in
              reads_at (set es i y) now.0 q x apart_moved (rw length-set now.1) (ap road_of stands ∙ here)
              ∙ ap Some stands ∙ sym (reads_at whole m q x apart l here)
        ])
      ];
      count = rw length-set (sym long);
    }
