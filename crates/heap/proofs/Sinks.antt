-- An entry sinks: it is exchanged with its first child while that comes before it.
use Rattle.std.proofs.Common.{◌≡◌, ℕ, ◌+◌, ◌*◌, ◌<◌, ◌≤◌, Bool, true, false, subst, ⊎_elim, arith}
use Rattle.std.proofs.lemmas.Bool.{cases_eq}
use Rattle.fringe.specs.declared.place.Place.{Place}
use Rattle.fringe.specs.Entries.{ahead}
use Rattle.heap.specs.declared.Rows.{Rows}
use Rattle.heap.specs.Heaps.{Ordered, parent, entry_at}
use Rattle.heap.specs.Sifts.{Exchange, Sinking, FirstOfChildren}
use Rattle.fringe.proofs.Ranks.{Ranked}

-- The entry at c is a child of the one at i, and no child comes before it.
pub record FirstAt {E : Type 0} (leq : E → E → Bool) (n : ℕ) (at : ℕ → E) (i c : ℕ) : Type 0 where
  pub child : parent c ≡ i
  pub later : i < c
  pub within : c < n
  pub first : (k : ℕ) → 0 < k → k < n → parent k ≡ i → leq (at c) (at k) ≡ true

pub first_at : {C T : Type 0} {thing : C → T} {leq : T → T → Bool} {rows : Rows C} {i c : ℕ} → FirstOfChildren thing leq rows i c → (d : Place × C) → FirstAt (ahead thing leq) rows.len (entry_at rows d) i c
first_at f d = record { child = f.child; later = f.later; within = f.within; first = λ k. f.first k d }

module _ {E : Type 0} {leq : E → E → Bool} (o : Ranked leq) {n : ℕ} {at : ℕ → E} {i : ℕ} (down : Sinking leq n at i) where
  -- It has no child: all is in order.
  pub sunk_last : n ≤ 2 * i + 1 → Ordered leq n at
  sunk_last z k h l = down.others k h l (λ e. omega arith)

  module _ {c : ℕ} (f : FirstAt leq n at i c) where
    child : parent c ≡ i
    child = f.child

    later : i < c
    later = f.later

    -- The first child does not come before it: all is in order.
    pub sunk : leq (at i) (at c) ≡ true → Ordered leq n at
    sunk fine k h l =
        ⊎_elim
        (λ (e : parent k ≡ i). rw e (o.chain _ _ _ fine (f.first k h l e)))
        (down.others k h l)
        (cases_eq (parent k) i)

    module _ {at' : ℕ → E} (s : Exchange at at' c i) (low : leq (at i) (at c) ≡ false) where
      others_after : (k : ℕ) → 0 < k → k < n → (parent k ≡ c → ⊥) → leq (at' (parent k)) (at' k) ≡ true
      others_after k h l y =
          let p = child in
          let i<c = later in
          ⊎_elim
          (λ (e : k ≡ c). rw (e, child, s.1, s.0) (o.total _ _ low))
          (λ x. ⊎_elim
          (λ (e : k ≡ i). rw (s.2 (parent k) (λ t. omega arith) (λ t. omega arith), e, s.1) (down.across c (omega arith) f.within child (omega arith)))
          (λ z. rw (s.2 k x z)
          (⊎_elim
          (λ (e : parent k ≡ i). rw (e, s.1) (f.first k h l e))
          (λ a. rw (s.2 (parent k) y a) (down.others k h l a))
          (cases_eq (parent k) i)))
          (cases_eq k i))
          (cases_eq k c)

      across_after : (k : ℕ) → 0 < k → k < n → parent k ≡ c → 0 < c → leq (at' (parent c)) (at' k) ≡ true
      across_after k h l e z =
          let i<c = later in
          rw (child, s.1, s.2 k (λ t. omega arith) (λ t. omega arith))
          (subst (λ q. leq (at q) (at k) ≡ true) e (down.others k h l (λ t. omega arith)))

      -- One step away from the front.
      pub sinks : Sinking leq n at' c
      sinks = record { others = others_after; across = across_after }
