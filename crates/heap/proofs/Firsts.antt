-- The first entry is the least, and is taken out.
use Rattle.std.proofs.Common.{◌≡◌, ℕ, zero, suc, ◌+◌, ◌<◌, ◌≤◌, Bool, true, length, Some, None, sym, ap, ◌∙◌, ⊎_elim, arith}
use Rattle.std.specs.Option.{option_map}
use Rattle.fringe.specs.declared.place.Place.{Place}
use Rattle.fringe.specs.Fringes.{First, Taken}
use Rattle.fringe.specs.Orders.{TotalOrder}
use Rattle.heap.specs.declared.Rows.{Rows}
use Rattle.heap.specs.Heaps.{Ordered, InOrder, parent, place_of, cost_at, counted, entry_at, meaning_of}
use Rattle.heap.specs.Indexes.{Indexed}
use Rattle.heap.specs.Sifts.{Swapped, Reordered, DownFrom}
use Rattle.heap.proofs.Entries.{once, decided, held_some, held_none, held_where}
use Rattle.fringe.proofs.Ranks.{Ranked, entries_ranked, costs_leq, costs_less}

-- In heap order no entry comes before the first.
module _ {E : Type 0} {leq : E → E → Bool} (o : Ranked leq) {n : ℕ} (at : ℕ → E) (ordered : Ordered leq n at) where
  root_by : (fuel k : ℕ) → k ≤ fuel → k < n → leq (at 0) (at k) ≡ true
  root_by fuel zero f l = o.same (at 0)
  root_by zero (suc k) f l = absurd (omega arith)
  root_by (suc fuel) (suc k) f l =
      o.chain _ _ _ (root_by fuel (parent (suc k)) (omega arith) (omega arith)) (ordered (suc k) (omega arith) l)

  pub root : (k : ℕ) → k < n → leq (at 0) (at k) ≡ true
  root k l = root_by k k (omega arith) l

pub first_least : {C T : Type 0} (thing : C → T) {leq : T → T → Bool} (o : TotalOrder leq) (rows : Rows C) → Indexed rows → InOrder thing leq rows → 0 < rows.len → (x : Place × C) → First thing leq (meaning_of rows) (place_of (entry_at rows x 0)) (entry_at rows x 0).1
first_least thing {leq} o rows ix ordered some x = record {
  there = ap (option_map thing) (held_some ix 0 x some);
  least = λ q d e.
      let w = held_where ix q d x e in
      let f = root (entries_ranked thing o) (entry_at rows x) (ordered x) w.0 w.1 in
      rw (← w.3) (costs_leq thing leq (entry_at rows x 0) (entry_at rows x w.0) f);
  lowest = λ q d e l.
      let w = held_where ix q d x e in
      let f = root (entries_ranked thing o) (entry_at rows x) (ordered x) w.0 w.1 in
      let p = w.2 in
      rw (← w.3) (costs_less thing leq (entry_at rows x 0) (entry_at rows x w.0) f (omega arith));
}

-- The last entry does not count any more.
pub record Shorter {C : Type 0} (before after : Rows C) : Type 0 where
  pub indexed : Indexed before
  pub len : before.len ≡ after.len + 1
  pub same_entries : after.entries.now ≡ before.entries.now
  pub same_positions : after.positions.now ≡ before.positions.now

module _ {C : Type 0} {before after : Rows C} (s : Shorter before after) where
  same_at : (d : Place × C) (k : ℕ) → entry_at after d k ≡ entry_at before d k
  same_at d k = rw s.same_entries

  pub shorter_indexed : Indexed after
  shorter_indexed =
      let ix = s.indexed in
      let n = s.len in
      rw (s.same_entries, s.same_positions) record {
        level = ix.level;
        few = ix.few;
        fits = let f = ix.fits in omega arith;
        inside = λ k d h. ix.inside k d (omega arith);
        there = λ k d h. ix.there k d (omega arith);
      }

  pub last_gone : (d : Place × C) → cost_at (counted after) (place_of (entry_at before d after.len)) ≡ None
  last_gone d =
      let n = s.len in
      held_none shorter_indexed _ d
      (λ k h e. let t = once s.indexed k after.len d (omega arith) (omega arith) (ap place_of (sym (same_at d k)) ∙ e) in omega arith)

  pub others_held : (d : Place × C) (q : ℕ) → (q ≡ place_of (entry_at before d after.len) → ⊥) → cost_at (counted after) q ≡ cost_at (counted before) q
  others_held d q x =
      let n = s.len in
      ⊎_elim
      (λ m.
      let y : m.0 ≡ after.len → ⊥ = λ t. x (sym m.2 ∙ ap (λ i. place_of (entry_at before d i)) t) in
      let l = m.1 in
      let a = held_some s.indexed m.0 d l in
      let b = held_some shorter_indexed m.0 d (omega (arith, y)) in
      let e = same_at d m.0 in
      let f = m.2 in
      cc)
      (λ y. held_none shorter_indexed q d (λ k h e. y k (omega arith) (ap place_of (sym (same_at d k)) ∙ e)) ∙ sym (held_none s.indexed q d y))
      (decided s.indexed q d)

-- The first entry was exchanged with the last, cut off, and the new first was sifted down.
module _ {C T : Type 0} (thing : C → T) {leq : T → T → Bool} (o : TotalOrder leq) {before swapped shorter after : Rows C} (ix : Indexed before)
    (exchange : Swapped before swapped 0 shorter.len) (r : Reordered before swapped) (cut : Shorter swapped shorter) (r' : Reordered shorter after) where
  counts : before.len ≡ shorter.len + 1
  counts = sym r.same_len ∙ cut.len

  last_is : (d : Place × C) → entry_at swapped d shorter.len ≡ entry_at before d 0
  last_is d = (exchange d).1

  pub first_taken : (x : Place × C) → InOrder thing leq before → Taken thing leq (meaning_of before) (meaning_of after) (Some (entry_at before x 0))
  first_taken x ordered = record {
    answer = let n = counts in first_least thing o before ix ordered (omega arith) x;
    same_capacity = r'.same_capacity ∙ ap length cut.same_positions ∙ r.same_capacity;
    rest = record {
      gone = r'.same_held _ ∙ ap (λ e. cost_at (counted shorter) (place_of e)) (sym (last_is x)) ∙ last_gone cut x;
      elsewhere = λ q y. ap (option_map thing)
          (r'.same_held q ∙ others_held cut x q (λ e. y (e ∙ ap place_of (last_is x))) ∙ r.same_held q);
    };
  }

  pub first_sinks : InOrder thing leq before → DownFrom thing leq shorter 0
  first_sinks ordered d =
      let n = counts in
      record {
        others = λ k h l y.
            rw (same_at cut d k, same_at cut d (parent k), (exchange d).2 k (λ t. omega arith) (λ t. omega arith), (exchange d).2 (parent k) y (λ t. omega arith))
            (ordered d k h (omega arith));
        across = λ k h l e pos. absurd (omega arith);
      }
