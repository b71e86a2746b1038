-- Two entries of indexed rows are exchanged.
use Rattle.std.proofs.Common.{◌≡◌, ℕ, ◌<◌, length, get_or, set, sym, ap, ◌∙◌, ⊎_elim, arith, length-set, get_or-set_other, get_or-set_same}
use Rattle.std.proofs.lemmas.Bool.{cases_eq}
use Rattle.fringe.specs.declared.place.Place.{Place}
use Rattle.heap.specs.declared.Rows.{Rows}
use Rattle.heap.specs.Heaps.{place_of, entry_at}
use Rattle.heap.specs.Indexes.{Indexed}
use Rattle.heap.specs.Sifts.{Swapped, Reordered}
use Rattle.heap.proofs.Entries.{once, same_held}

-- The entries at i and j are exchanged, and both are noted.
pub record Exchanged {C : Type 0} (before after : Rows C) (i j : ℕ) : Type 0 where
  pub indexed : Indexed before
  pub il : i < before.len
  pub jl : j < before.len
  pub swapped : Swapped before after i j
  pub same_len : after.len ≡ before.len
  pub same_length : length after.entries.now ≡ length before.entries.now
  pub noted : (d : Place × C) → after.positions.now ≡ set (set before.positions.now (place_of (entry_at after d i)) i) (place_of (entry_at after d j)) j

module _ {C : Type 0} {before after : Rows C} {i j : ℕ} (x : Exchanged before after i j) where
  moved : (d : Place × C) (k : ℕ) → k < before.len → (m : ℕ) × (m < after.len) × (entry_at after d m ≡ entry_at before d k)
  moved d k h =
      let s = x.swapped d in
      let n = x.same_len in
      let a = x.il in
      let b = x.jl in
      ⊎_elim
      (λ (e : k ≡ i). (j, omega arith, s.1 ∙ ap (entry_at before d) (sym e)))
      (λ u. ⊎_elim (λ (e : k ≡ j). (i, omega arith, s.0 ∙ ap (entry_at before d) (sym e))) (λ v. (k, omega arith, s.2 k u v)) (cases_eq k j))
      (cases_eq k i)

  came : (d : Place × C) (k : ℕ) → k < after.len → (m : ℕ) × (m < before.len) × (entry_at after d k ≡ entry_at before d m)
  came d k h =
      let s = x.swapped d in
      let n = x.same_len in
      ⊎_elim
      (λ (e : k ≡ i). (j, x.jl, ap (entry_at after d) e ∙ s.0))
      (λ u. ⊎_elim (λ (e : k ≡ j). (i, x.il, ap (entry_at after d) e ∙ s.1)) (λ v. (k, omega arith, s.2 k u v)) (cases_eq k j))
      (cases_eq k i)

  same_capacity : (d : Place × C) → length after.positions.now ≡ length before.positions.now
  same_capacity d = ap length (x.noted d) ∙ simp length-set

  below : (d : Place × C) (k : ℕ) → k < after.len → place_of (entry_at after d k) < length before.positions.now
  below d k h = let m = came d k h in rw m.2 (x.indexed.inside m.0 d m.1)

  -- The entry at k is not that at j, so it is of another place.
  apart_j : (d : Place × C) (k : ℕ) → k < before.len → (k ≡ j → ⊥) → place_of (entry_at after d k) ≡ place_of (entry_at after d j) → ⊥
  apart_j d k h v e =
      let s = x.swapped d in
      ⊎_elim
      (λ (f : k ≡ i). v (f ∙ sym (once x.indexed j i d x.jl x.il (ap place_of (sym s.0) ∙ ap (λ q. place_of (entry_at after d q)) (sym f) ∙ e ∙ ap place_of s.1))))
      (λ u. u (once x.indexed k i d h x.il (ap place_of (sym (s.2 k u v)) ∙ e ∙ ap place_of s.1)))
      (cases_eq k i)

  there_after : (d : Place × C) (k : ℕ) → k < before.len → get_or after.positions.now (place_of (entry_at after d k)) 0 ≡ k
  there_after d k h =
      let s = x.swapped d in
      let n = x.same_len in
      let a = x.il in
      let b = x.jl in
      let il = below d i (omega arith) in
      let jl : place_of (entry_at after d j) < length (set before.positions.now (place_of (entry_at after d i)) i) = rw length-set (below d j (omega arith)) in
      rw (x.noted d)
      (⊎_elim
      (λ (e : k ≡ j). rw e (get_or-set_same _ (place_of (entry_at after d j)) j 0 jl))
      (λ v.
      get_or-set_other _ (place_of (entry_at after d j)) (place_of (entry_at after d k)) j 0 (apart_j d k h v)
      ∙ ⊎_elim
      (λ (e : k ≡ i). rw e (get_or-set_same before.positions.now (place_of (entry_at after d i)) i 0 il))
      (λ u.
      let same = s.2 k u v in
      let y : place_of (entry_at after d k) ≡ place_of (entry_at after d i) → ⊥ = λ f. v (once x.indexed k j d h x.jl (ap place_of (sym same) ∙ f ∙ ap place_of s.0)) in
      get_or-set_other before.positions.now (place_of (entry_at after d i)) (place_of (entry_at after d k)) i 0 y
      ∙ ap (λ e. get_or before.positions.now (place_of e) 0) same
      ∙ x.indexed.there k d h)
      (cases_eq k i))
      (cases_eq k j))

  pub still_indexed : Place × C → Indexed after
  still_indexed d =
      let w = x.indexed in
      let n = x.same_len in
      let m = x.same_length in
      let c = same_capacity d in
      let lv = w.level in
      let fw = w.few in
      let ft = w.fits in
      record {
        level = omega arith;
        few = omega arith;
        fits = omega arith;
        inside = λ k e h. rw c (below e k h);
        there = λ k e h. there_after e k (omega arith);
      }

  pub reordered : Place × C → Reordered before after
  reordered d = record {
    same_len = x.same_len;
    same_capacity = same_capacity d;
    same_held = same_held x.indexed (still_indexed d) d (moved d) (came d);
  }
