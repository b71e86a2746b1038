-- Roads that rise by a pair of numbers.
use Rattle.std.proofs.Common.{◌≡◌, ℕ, zero, suc, ◌<◌, ◌≤◌, Bool, true, false, not, ◌&&◌, List, nat_lt, Some, None, Option, refl, sym, ◌∙◌, inl, inr, arith}
use Rattle.std.proofs.lemmas.Bool.{cases_Bool, not_from_false, not_from_true}
use Rattle.map.specs.declared.roads.Road.{Road}
use Rattle.format.specs.Bytes.{places, roads}
use Rattle.format.specs.Picks.{first}
use Rattle.format.specs.Reading.{before, previous, within_limits, road_of, arrival_of, arriving, rises_by_start, rises_by_end}
use Rattle.format.proofs.Verdicts.{stops_at, runs_out}
use Rattle.cartridge.specs.Orders.{by_start, by_end, key_if, above, key_before, rises_at, FirstFall}

-- the i-th entry is the road `at i`, which is right by itself if `fits i`; roads rise by the pairs
pub record Keyed (key : ℕ → Option (ℕ × ℕ)) (n : ℕ) (fits : ℕ → Bool) (at : ℕ → Road) (pair : Road → ℕ × ℕ) (rises : Option Road → Road → Bool) : Type 0 where
  pub first : (x : Road) → rises None x ≡ true
  pub next : (y x : Road) → rises (Some y) x ≡ before (pair y).0 (pair y).1 (pair x).0 (pair x).1
  pub keyed : (i : ℕ) → i < n → key i ≡ key_if (fits i) (pair (at i))

module _ {key : ℕ → Option (ℕ × ℕ)} {n : ℕ} {fits : ℕ → Bool} {at : ℕ → Road} {pair : Road → ℕ × ℕ} {rises : Option Road → Road → Bool} (h : Keyed key n fits at pair rises) where
  unfit : (last : Option (ℕ × ℕ)) (i : ℕ) → i < n → fits i ≡ false → above last (key i) ≡ false
  unfit last i l e = let k = h.keyed i l in rw (k, e)

  fit : (last : Option (ℕ × ℕ)) (i : ℕ) → i < n → above last (key i) ≡ true → fits i ≡ true
  fit last i l t = elim (cases_Bool (fits i)) [
    | inl e ↦ e
    | inr e ↦ let z : ◌≡◌ {A = Bool} true false = sym t ∙ unfit last i l e in cc
  ]

  -- where all before it rise, an entry rises if it is right
  pub right_if : (i : ℕ) → i < n → ((j : ℕ) → j < i → rises_at key j ≡ true) → rises_at key i ≡ (fits i && rises (previous at i) (at i))
  right_if zero l b = elim (cases_Bool (fits 0)) [
    | inl e ↦ let k = h.keyed 0 l in let f = h.first (at 0) in rw (k, e, f)
    | inr e ↦ rw e (unfit None 0 l e)
  ]
  right_if (suc i) l b = elim (cases_Bool (fits (suc i))) [
    | inl e ↦ let k = h.keyed (suc i) l in let p = h.keyed i (omega arith) in
        let q = fit (key_before key i) i (omega arith) (b i (omega arith)) in
        let f = h.next (at i) (at (suc i)) in rw (k, e, p, q, f)
    | inr e ↦ rw e (unfit (key i) (suc i) l e)
  ]

  all_right : (k : ℕ) → k ≤ n → ((i : ℕ) → i < k → rises_at key i ≡ true) → (i : ℕ) → 0 ≤ i → i < k → not (fits i && rises (previous at i) (at i)) ≡ false
  all_right k l b i z u = not_from_true _ (sym (right_if i (omega arith) (λ j v. b j (omega arith))) ∙ b i u)

  -- the first entry at which the keys do not rise is the first that is not right
  pub first_wrong : (o : Option ℕ) → FirstFall key n o → o ≡ first (λ i. not (fits i && rises (previous at i) (at i))) 0 n
  first_wrong None h = sym (runs_out (λ i. not (fits i && rises (previous at i) (at i))) n (all_right n (omega arith) h))
  first_wrong (Some k) h = let l = h.0 in
      sym (stops_at (λ i. not (fits i && rises (previous at i) (at i))) n k l (not_from_false _ (sym (right_if k l h.2) ∙ h.1)) (all_right k (omega arith) h.2))

-- the keys of roads and arrivals
abbrev pub road_key_of : List ℕ → ℕ → Option (ℕ × ℕ)
road_key_of b i = key_if (within_limits (places b) (road_of b i)) (by_start (road_of b i))

abbrev pub arrival_key_of : List ℕ → ℕ → Option (ℕ × ℕ)
arrival_key_of b i = key_if (nat_lt (arrival_of b i) (roads b)) (by_end (arriving b i))

pub roads_keyed : (b : List ℕ) → Keyed (road_key_of b) (roads b) (λ r. within_limits (places b) (road_of b r)) (road_of b) by_start rises_by_start
roads_keyed b = record { first = λ x. refl; next = λ y x. refl; keyed = λ i l. refl }

pub arrivals_keyed : (b : List ℕ) → Keyed (arrival_key_of b) (roads b) (λ i. nat_lt (arrival_of b i) (roads b)) (arriving b) by_end rises_by_end
arrivals_keyed b = record { first = λ x. refl; next = λ y x. refl; keyed = λ i l. refl }

-- what is computed from an entry is its key
pub road_keyed : (b : List ℕ) (i n : ℕ) (x : Road) (k : Option (ℕ × ℕ)) → n ≡ places b → x ≡ road_of b i → k ≡ key_if (within_limits n x) (by_start x) → k ≡ road_key_of b i
road_keyed b i n x k e f h = rw (e, f) at h

pub arrival_keyed : (b : List ℕ) (i r : ℕ) (k : Option (ℕ × ℕ)) → r ≡ arrival_of b i → k ≡ key_if (nat_lt r (roads b)) (by_end (road_of b r)) → k ≡ arrival_key_of b i
arrival_keyed b i r k e h = rw e at h
