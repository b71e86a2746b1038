-- Where the entries at a place begin, by halving.
use Rattle.std.proofs.Common.{◌≡◌, ℕ, ◌<◌, ◌≤◌, Bool, true, false, ltb, List, [], ◌∷◌, length, get_or, Some, None, Option, MatchOption, ◌⊎◌, eqb, ◌∙◌, sym, refl, inl, inr, arith}
use Rattle.std.specs.Bool.{then_some}
use Rattle.std.specs.Option.{option_eq}
use Rattle.std.specs.List.Sorted.{IsPartitionedBy, IsPartitionPoint}
use Rattle.std.proofs.lemmas.Bool.{ltb-true, ltb-false, lt-ltb, cases_eq, eq-eqb, ne_eqb}
use Rattle.cartridge.specs.Listings.{Climbs, Begins}

-- an entry is below a place, as `<` compares
abbrev pub lies_below : Option ℕ → ℕ → Bool
lies_below None p = true
lies_below (Some a) p = ltb a p

some_of : {T : Type 0} (ys : List T) (i : ℕ) → i < length ys → T
some_of [] i l = absurd (omega arith)
some_of (y ∷ ys) i l = y

module _ {T : Type 0} (xs : List T) (k : T → Option ℕ) (key : ℕ → ℕ) (p : ℕ) (keyed : (i : ℕ) (d : T) → i < length xs → k (get_or xs i d) ≡ Some (key i)) where
  at : (i : ℕ) (d : T) → i < length xs → lies_below (k (get_or xs i d)) p ≡ ltb (key i) p
  at i d l = rw (keyed i d l)

  pub parted : Climbs key (length xs) → IsPartitionedBy (λ y. lies_below (k y) p) xs
  parted c = λ i j d l u t.
      let m = ltb-true (key j) p (sym (at j d u) ∙ t) in
      let n = c i j l u in
      at i d (omega arith) ∙ lt-ltb (key i) p (omega arith)

  pub begins : (first : ℕ) → first ≤ length xs → IsPartitionPoint (λ y. lies_below (k y) p ≡ true) (λ y. lies_below (k y) p ≡ false) xs first → Begins key (length xs) p first
  begins first w h = record {
    within = w;
    below = λ i l. let d = some_of xs i (omega arith) in ltb-true (key i) p (sym (at i d (omega arith)) ∙ h.0 i d (omega arith) l);
    from = λ i l u. let d = some_of xs i u in ltb-false (key i) p (sym (at i d u) ∙ h.1 i d l u);
  }

-- the entry at i is the one asked for, or no more are at the place p
pub asked : (key : ℕ → ℕ) (n p i : ℕ) (o r : Option ℕ) (t : Bool) → i < n → o ≡ Some (key i) → t ≡ option_eq eqb o (Some p) → r ≡ then_some t i →
    MatchOption r ((n ≤ i) ⊎ (key i ≡ p → ⊥)) (λ k. (k ≡ i) × (k < n) × (key k ≡ p))
asked key n p i o r t l e f h = elim (cases_eq (key i) p) [
  | inl s ↦ let u : t ≡ true = f ∙ rw e (eq-eqb (key i) p s) in rw (h, u) (refl, l, s)
  | inr s ↦ let u : t ≡ false = f ∙ rw e (ne_eqb (key i) p s) in rw (h, u) (inr s)
]
