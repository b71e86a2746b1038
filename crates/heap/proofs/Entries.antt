-- What indexed rows hold, by the positions of their entries.
use Rattle.std.proofs.Common.{◌≡◌, ℕ, zero, suc, ◌<◌, ◌≤◌, ◌⊎◌, List, [], ◌∷◌, length, get_or, Some, None, sym, refl, ap, ◌∙◌, inl, inr, ⊎_elim, arith, length-take, get_or-take, eq-eqb, ne_eqb}
use Rattle.std.proofs.lemmas.List.{get_or_default}
use Rattle.std.proofs.lemmas.Bool.{cases_eq, cases_lt}
use Rattle.fringe.specs.declared.place.Place.{Place}
use Rattle.heap.specs.declared.Rows.{Rows}
use Rattle.heap.specs.Heaps.{place_of, cost_at, counted, entry_at}
use Rattle.heap.specs.Bounds.{first_none}
use Rattle.heap.specs.Indexes.{Indexed}
use Rattle.heap.specs.Sifts.{Reordered}

-- The entry at k is found, unless one of the same place stands before it.
cost_some : {C : Type 0} (es : List (Place × C)) (d : Place × C) (k : ℕ) → k < length es → ((j : ℕ) → j < k → place_of (get_or es j d) ≡ place_of (get_or es k d) → ⊥) → cost_at es (place_of (get_or es k d)) ≡ Some (get_or es k d).1
cost_some [] d k h apart = absurd (omega arith)
cost_some (e ∷ es) d zero h apart = rw (eq-eqb (place_of e) (place_of e) refl)
cost_some (e ∷ es) d (suc k) h apart =
    rw (ne_eqb (place_of e) (place_of (get_or es k d)) (apart 0 (omega arith)))
    (cost_some es d k (omega arith) (λ j l. apart (suc j) (omega arith)))

an_element : {X : Type 0} (xs : List X) → 0 < length xs → X
an_element [] h = absurd (omega arith)
an_element (x ∷ xs) h = x

module _ {C : Type 0} {rows : Rows C} (ix : Indexed rows) where
  pub long : rows.len ≤ length rows.entries.now
  long = let l = ix.level in let f = ix.fits in omega arith

  -- Where an entry counts there is one, to serve as a default.
  pub some_entry : {k : ℕ} → k < rows.len → Place × C
  some_entry h = let l = long in an_element rows.entries.now (omega arith)

  -- Below `len` one default serves as well as another.
  pub default : (k : ℕ) (d e : Place × C) → k < rows.len → entry_at rows d k ≡ entry_at rows e k
  default k d e h = let l = long in get_or_default rows.entries.now k d e (omega arith)

  -- Each place stands once.
  pub once : (j k : ℕ) (d : Place × C) → j < rows.len → k < rows.len → place_of (entry_at rows d j) ≡ place_of (entry_at rows d k) → j ≡ k
  once j k d jl kl e = sym (ix.there j d jl) ∙ ap (λ p. get_or rows.positions.now p 0) e ∙ ix.there k d kl

  pub held_some : (k : ℕ) (d : Place × C) → k < rows.len → cost_at (counted rows) (place_of (entry_at rows d k)) ≡ Some (entry_at rows d k).1
  held_some k d h =
      let l = long in
      let n = length-take rows.len rows.entries.now in
      let f = λ (j : ℕ) (jl : j < rows.len). get_or-take rows.len rows.entries.now j d jl in
      rw (← f k h)
      (cost_some (counted rows) d k (omega arith) (λ j jl. rw (f j (omega arith), f k h) (λ e. let s = once j k d (omega arith) h e in omega arith)))

  pub held_none : (p : ℕ) (d : Place × C) → ((k : ℕ) → k < rows.len → place_of (entry_at rows d k) ≡ p → ⊥) → cost_at (counted rows) p ≡ None
  held_none p d apart =
      first_none rows.len rows.entries.now p (λ k e h s. apart k h (ap place_of (default k d e h) ∙ s))

  -- A place has an entry or none.
  pub decided : (p : ℕ) (d : Place × C) → ((k : ℕ) × (k < rows.len) × (place_of (entry_at rows d k) ≡ p)) ⊎ ((k : ℕ) → k < rows.len → place_of (entry_at rows d k) ≡ p → ⊥)
  decided p d =
      let k = get_or rows.positions.now p 0 in
      let stands : (j : ℕ) → j < rows.len → place_of (entry_at rows d j) ≡ p → k ≡ j = λ j h e. ap (λ q. get_or rows.positions.now q 0) (sym e) ∙ ix.there j d h in
      ⊎_elim
      (λ (h : k < rows.len). ⊎_elim (λ e. inl (k, h, e)) (λ x. inr (λ j l e. x (ap (λ i. place_of (entry_at rows d i)) (stands j l e) ∙ e))) (cases_eq (place_of (entry_at rows d k)) p))
      (λ h. inr (λ j l e. let s = stands j l e in omega arith))
      (cases_lt k rows.len)

  pub held_where : (p : ℕ) (c : C) (d : Place × C) → cost_at (counted rows) p ≡ Some c → (k : ℕ) × (k < rows.len) × (place_of (entry_at rows d k) ≡ p) × ((entry_at rows d k).1 ≡ c)
  held_where p c d e =
      ⊎_elim
      (λ w. let s = held_some w.0 d w.1 in let t = w.2 in (w.0, w.1, w.2, cc))
      (λ x. let s = held_none p d x in let z : ◌≡◌ {A = ℕ} 0 1 = cc in absurd (omega arith))
      (decided p d)

-- Rows whose entries are the same hold the same.
module _ {C : Type 0} {before after : Rows C} (ix : Indexed before) (ix' : Indexed after) (d : Place × C)
    (moved : (k : ℕ) → k < before.len → (m : ℕ) × (m < after.len) × (entry_at after d m ≡ entry_at before d k))
    (came : (k : ℕ) → k < after.len → (m : ℕ) × (m < before.len) × (entry_at after d k ≡ entry_at before d m)) where
  pub same_held : (p : ℕ) → cost_at (counted after) p ≡ cost_at (counted before) p
  same_held p =
      ⊎_elim
      (λ w.
      let m = moved w.0 w.1 in
      let s = held_some ix w.0 d w.1 in
      let t = held_some ix' m.0 d m.1 in
      let e = m.2 in
      let f = w.2 in
      cc)
      (λ x. held_none ix' p d (λ k h e. let m = came k h in x m.0 m.1 (ap place_of (sym m.2) ∙ e)) ∙ sym (held_none ix p d x))
      (decided ix p d)

pub again : {C : Type 0} {first then last : Rows C} → Reordered first then → Reordered then last → Reordered first last
again a b = record {
  same_len = b.same_len ∙ a.same_len;
  same_capacity = b.same_capacity ∙ a.same_capacity;
  same_held = λ p. b.same_held p ∙ a.same_held p;
}
