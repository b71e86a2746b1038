-- One more entry taken out of a fringe and written down.
use Rattle.std.proofs.Common.{◌≡◌, ℕ, zero, suc, ◌+◌, ◌<◌, ◌≤◌, Bool, ◌⊎◌, List, [], ◌∷◌, length, drop, set, Some, None, Option, sym, refl, ap, ◌∙◌, subst, inl, inr, ⊎_elim, arith, drop-drop, drop-set-lt}
use Rattle.std.specs.List.{slice_get}
use Rattle.std.specs.Option.{option_map}
use Rattle.std.proofs.lemmas.Bool.{cases_lt, cases_eq}
use Rattle.fringe.specs.declared.place.Place.{Place}
use Rattle.fringe.specs.Fringes.{Meaning, Alike, Taken}
use Rattle.fringe.specs.Drains.{Before, Drawn, Drained}

never : {A : Type 0} {o : Option A} {a : A} → o ≡ None → o ≡ Some a → ⊥
never n s = let z : ◌≡◌ {A = ℕ} 0 1 = cc in omega arith

-- what an element that was written reads as, and every other
nth_set_same : {A : Type 0} (l : List A) (i : ℕ) (a : A) → i < length l → slice_get (set l i a) i ≡ Some a
nth_set_same [] i a h = absurd (omega arith)
nth_set_same (x ∷ xs) zero a h = refl
nth_set_same (x ∷ xs) (suc i) a h = nth_set_same xs i a (omega arith)

nth_set_other : {A : Type 0} (l : List A) (i j : ℕ) (a : A) → (j ≡ i → ⊥) → slice_get (set l i a) j ≡ slice_get l j
nth_set_other [] i j a h = refl
nth_set_other (x ∷ xs) zero zero a h = absurd (h refl)
nth_set_other (x ∷ xs) zero (suc j) a h = refl
nth_set_other (x ∷ xs) (suc i) zero a h = refl
nth_set_other (x ∷ xs) (suc i) (suc j) a h = nth_set_other xs i j a (λ e. h (ap suc e))

-- what stands past the index written stays
pub past_set : {A : Type 0} (l k : List A) (i : ℕ) (a : A) → drop i l ≡ drop i k → drop (i + 1) (set l i a) ≡ drop (i + 1) k
past_set l k i a e = drop-set-lt (i + 1) l i a (omega arith) ∙ sym (drop-drop 1 i l) ∙ ap (drop 1) e ∙ drop-drop 1 i k

-- an entry among the first n and one more is an old one or the new one
one_more : {A : Type 0} (l : List A) (n i : ℕ) (new a : A) → n < length l → i < n + 1 → slice_get (set l n new) i ≡ Some a →
    ((i < n) × (slice_get l i ≡ Some a)) ⊎ ((i ≡ n) × (a ≡ new))
one_more l n i new a fits h e =
    ⊎_elim
    (λ (same : i ≡ n). let s = nth_set_same l n new fits in let k : slice_get (set l n new) n ≡ Some a = ap (slice_get (set l n new)) (sym same) ∙ e in inr (same, cc))
    (λ (other : i ≡ n → ⊥). inl (omega (arith, other), sym (nth_set_other l n i new other) ∙ e))
    (cases_eq i n)

module _ {C T : Type 0} (thing : C → T) (leq : T → T → Bool) where
  -- what is alike to a cost is a cost that stands for the same
  alike_some : (o : Option C) (c : C) → option_map thing o ≡ Some (thing c) → (d : C) × (o ≡ Some d) × (thing d ≡ thing c)
  alike_some None c e = absurd (never refl e)
  alike_some (Some d) c e = (d, refl, cc)

  alike_none : (o : Option C) → option_map thing o ≡ None → o ≡ None
  alike_none None e = refl
  alike_none (Some d) e = absurd (never e refl)

  -- costs that stand for the same come after the same
  before_alike : {p q : ℕ} {c d d' : C} → thing d ≡ thing d' → Before thing leq p c q d → Before thing leq p c q d'
  before_alike e b = record {
    at_most = let h = b.at_most in cc;
    lower = λ k. b.lower (cc);
  }

  -- a take that finds nothing is the end
  pub drained_end : {before now after : Meaning C} {n : ℕ} {out : List (Place × C)} → Drawn thing leq before now n out → Taken thing leq now after None →
      Drained thing leq before after n out
  drained_end drawn taken = record {
    drawn = record {
      same_capacity = taken.same_capacity ∙ drawn.same_capacity;
      rising = drawn.rising;
      was_held = drawn.was_held;
      gone = λ i a i<n e. taken.rest a.0.0;
      elsewhere = λ q none. ap (option_map thing) (taken.rest q ∙ sym (taken.answer q)) ∙ drawn.elsewhere q none;
      left = λ i q a d i<n e held. absurd (never (taken.rest q) held);
    };
    all = λ _. taken.rest;
  }

  -- and so is a full list
  pub drained_full : {before after : Meaning C} {n : ℕ} {out : List (Place × C)} → n ≡ length out → Drawn thing leq before after n out →
      Drained thing leq before after (length out) out
  drained_full {before} {after} {out} full drawn = record {
    drawn = subst (λ k. Drawn thing leq before after k out) full drawn;
    all = λ more q. absurd (omega arith);
  }

  module _ {before now after : Meaning C} {n : ℕ} {out : List (Place × C)} (best : Place × C) (fits : n < length out) (drawn : Drawn thing leq before now n out) (taken : Taken thing leq now after (Some best)) where
    -- the new entry's place is that of no old entry
    fresh : (i : ℕ) (a : Place × C) → i < n → slice_get out i ≡ Some a → a.0.0 ≡ best.0.0 → ⊥
    fresh i a h e same =
        let here = alike_some (now.held best.0.0) best.1 taken.answer.there in
        never (ap now.held (sym same) ∙ drawn.gone i a h e) here.1

    -- what is left was left before, and stands elsewhere
    stays : (q : ℕ) (d : C) → after.held q ≡ Some d → (q ≡ best.0.0 → ⊥) × ((d' : C) × (now.held q ≡ Some d') × (thing d' ≡ thing d))
    stays q d e =
        let apart : (q ≡ best.0.0 → ⊥) = λ same. never (ap after.held same ∙ taken.rest.gone) e in
        (apart, alike_some (now.held q) d (sym (taken.rest.elsewhere q apart) ∙ ap (option_map thing) e))

    -- the new entry comes after each old one
    follows : (i : ℕ) (a : Place × C) → i < n → slice_get out i ≡ Some a → Before thing leq a.0.0 a.1 best.0.0 best.1
    follows i a h e =
        let here = alike_some (now.held best.0.0) best.1 taken.answer.there in
        before_alike here.2 (drawn.left i best.0.0 a here.0 h e here.1)

    -- and before all that is left
    leads : (q : ℕ) (d : C) → after.held q ≡ Some d → Before thing leq best.0.0 best.1 q d
    leads q d e =
        let s = stays q d e in
        before_alike s.1.2 (record {
          at_most = taken.answer.least q s.1.0 s.1.1;
          lower = λ k.
              ⊎_elim
              (λ (below : best.0.0 < q). below)
              (λ (above : q ≤ best.0.0).
              let lt : q < best.0.0 = omega (arith, s.0) in
              let f = taken.answer.lowest q s.1.0 s.1.1 lt in
              let z : ◌≡◌ {A = ℕ} 0 1 = cc in absurd (omega arith))
              (cases_lt best.0.0 q);
        })

    -- an old entry stands where it stood
    old : (i : ℕ) → i < n → slice_get (set out n best) i ≡ slice_get out i
    old i h = nth_set_other out n i best (λ same. omega arith)

    pub drawn_more : Drawn thing leq before after (n + 1) (set out n best)
    drawn_more = record {
      same_capacity = taken.same_capacity ∙ drawn.same_capacity;
      rising = λ i j a b i<j j<n ea eb.
          let h : i < n = omega arith in
          let e = sym (old i h) ∙ ea in
          ⊎_elim
          (λ (w : (j < n) × (slice_get out j ≡ Some b)). drawn.rising i j a b i<j w.0 e w.1)
          (λ (w : (j ≡ n) × (b ≡ best)). subst (λ z. Before thing leq a.0.0 a.1 z.0.0 z.1) (sym w.1) (follows i a h e))
          (one_more out n j best b fits j<n eb);
      was_held = λ i a i<n e.
          ⊎_elim
          (λ (w : (i < n) × (slice_get out i ≡ Some a)). drawn.was_held i a w.0 w.1)
          (λ (w : (i ≡ n) × (a ≡ best)). subst (λ z. Alike thing leq (before.held z.0.0) (Some z.1)) (sym w.1) (sym (drawn.elsewhere best.0.0 fresh) ∙ taken.answer.there))
          (one_more out n i best a fits i<n e);
      gone = λ i a i<n e.
          ⊎_elim
          (λ (w : (i < n) × (slice_get out i ≡ Some a)). alike_none (after.held a.0.0) (taken.rest.elsewhere a.0.0 (fresh i a w.0 w.1) ∙ ap (option_map thing) (drawn.gone i a w.0 w.1)))
          (λ (w : (i ≡ n) × (a ≡ best)). ap (λ z. after.held z.0.0) w.1 ∙ taken.rest.gone)
          (one_more out n i best a fits i<n e);
      elsewhere = λ q none.
          taken.rest.elsewhere q (λ same. none n best (omega arith) (nth_set_same out n best fits) (sym same))
          ∙ drawn.elsewhere q (λ i a h e. none i a (omega arith) (old i h ∙ e));
      left = λ i q a d i<n e held.
          ⊎_elim
          (λ (w : (i < n) × (slice_get out i ≡ Some a)).
          let s = stays q d held in
          before_alike s.1.2 (drawn.left i q a s.1.0 w.0 w.1 s.1.1))
          (λ (w : (i ≡ n) × (a ≡ best)). subst (λ z. Before thing leq z.0.0 z.1 q d) (sym w.1) (leads q d held))
          (one_more out n i best a fits i<n e);
    }
