-- An entry is written, for a new place or over the entry of its place.
use Rattle.std.proofs.Common.{◌≡◌, ℕ, suc, ◌+◌, ◌<◌, ◌≤◌, Bool, true, false, cond, eqb, length, get_or, set, Some, None, Ok, sym, refl, ap, ◌∙◌, subst, ⊎_elim, arith, length-set, get_or-set_other, get_or-set_same, lt-ltb, eq-eqb, ne_eqb}
use Rattle.std.proofs.lemmas.List.{set-get_or}
use Rattle.std.proofs.lemmas.Bool.{cases_eq}
use Rattle.std.specs.Option.{option_map}
use Rattle.fringe.specs.declared.place.Place.{Place}
use Rattle.fringe.specs.Fringes.{Put, lowered}
use Rattle.fringe.specs.Orders.{TotalOrder}
use Rattle.fringe.specs.Entries.{ahead}
use Rattle.heap.specs.declared.Rows.{Rows}
use Rattle.heap.specs.Heaps.{Ordered, InOrder, parent, place_of, cost_at, counted, entry_at, meaning_of}
use Rattle.heap.specs.Indexes.{Indexed, Found}
use Rattle.heap.specs.Sifts.{Reordered, Rising, UpTo}
use Rattle.heap.proofs.Entries.{default, once, decided, held_some, held_none}
use Rattle.heap.proofs.Pigeons.{pigeons}
use Rattle.fringe.proofs.Ranks.{Ranked, entries_ranked}

-- The entry e is written at k and noted. No other entry that counts is of its place.
pub record Written {C : Type 0} (before after : Rows C) (k : ℕ) (e : Place × C) : Type 0 where
  pub indexed : Indexed before
  pub fits : place_of e < length before.positions.now
  pub same : (d : Place × C) → k < before.len → place_of (entry_at before d k) ≡ place_of e
  pub alone : (m : ℕ) (d : Place × C) → m < before.len → (m ≡ k → ⊥) → place_of (entry_at before d m) ≡ place_of e → ⊥
  pub counts : k < after.len
  pub room : after.len ≤ length before.positions.now
  pub keeps : before.len ≤ after.len
  pub others : (m : ℕ) → m < after.len → (m ≡ k → ⊥) → m < before.len
  pub entries : after.entries.now ≡ set before.entries.now k e
  pub noted : after.positions.now ≡ set before.positions.now (place_of e) k

-- A place that is not held leaves room for one more.
pub room_left : {C : Type 0} (rows : Rows C) (e : Place × C) → Indexed rows → place_of e < length rows.positions.now → Found rows (place_of e) None → rows.len < length rows.positions.now
room_left rows e ix fits absent =
    let n = rows.len in
    pigeons (suc n) (length rows.positions.now) (λ k. cond (eqb k n) (place_of e) (place_of (entry_at rows e k)))
    (λ k h. ⊎_elim (λ (s : k ≡ n). rw (eq-eqb k n s) fits) (λ x. rw (ne_eqb k n x) (ix.inside k e (omega (arith, x)))) (cases_eq k n))
    (λ j k jl kl same.
    ⊎_elim
    (λ (s : j ≡ n). ⊎_elim
    (λ (t : k ≡ n). s ∙ sym t)
    (λ y. absurd (absent k e (omega (arith, y)) (sym (rw (eq-eqb j n s, ne_eqb k n y) at same))))
    (cases_eq k n))
    (λ x. ⊎_elim
    (λ (t : k ≡ n). absurd (absent j e (omega (arith, x)) (rw (ne_eqb j n x, eq-eqb k n t) at same)))
    (λ y. once ix j k e (omega (arith, x)) (omega (arith, y)) (rw (ne_eqb j n x, ne_eqb k n y) at same))
    (cases_eq k n))
    (cases_eq j n))

module _ {C : Type 0} {before after : Rows C} {e : Place × C} (ix : Indexed before) where
  -- A new place's entry stands behind the others.
  pub appended : place_of e < length before.positions.now → Found before (place_of e) None → after.len ≡ before.len + 1 → after.entries.now ≡ set before.entries.now before.len e → after.positions.now ≡ set before.positions.now (place_of e) before.len → Written before after before.len e
  appended fits absent longer entries noted =
      let r = room_left before e ix fits absent in
      record {
        indexed = ix;
        fits = fits;
        same = λ d h. absurd (omega arith);
        alone = λ m d h x. absent m d h;
        counts = omega arith;
        room = omega arith;
        keeps = omega arith;
        others = λ m h x. omega (arith, x);
        entries = entries;
        noted = noted;
      }

  -- An entry is rewritten where it stands.
  pub rewritten : (k : ℕ) → Found before (place_of e) (Some k) → after.len ≡ before.len → after.entries.now ≡ set before.entries.now k e → after.positions.now ≡ before.positions.now → Written before after k e
  rewritten k found same_len entries same_positions =
      let h = found.0 in
      let p = ap (λ q. get_or before.positions.now q 0) (sym (found.1 e)) ∙ ix.there k e h in
      record {
        indexed = ix;
        fits = subst (λ q. q < length before.positions.now) (found.1 e) (ix.inside k e h);
        same = λ d _. found.1 d;
        alone = λ m d l x s. x (once ix m k d l h (s ∙ sym (found.1 d)));
        counts = omega arith;
        room = let f = ix.fits in omega arith;
        keeps = omega arith;
        others = λ m l x. omega arith;
        entries = entries;
        noted = same_positions ∙ sym (ap (set before.positions.now (place_of e)) (sym p) ∙ set-get_or before.positions.now (place_of e) 0);
      }

module _ {C : Type 0} {before after : Rows C} {k : ℕ} {e : Place × C} (w : Written before after k e) where
  at_k : (d : Place × C) → entry_at after d k ≡ e
  at_k d =
      let h = w.counts in
      let r = w.room in
      let l = w.indexed.level in
      rw w.entries (get_or-set_same before.entries.now k e d (omega arith))

  at_other : (d : Place × C) (m : ℕ) → (m ≡ k → ⊥) → entry_at after d m ≡ entry_at before d m
  at_other d m x = rw w.entries (get_or-set_other before.entries.now k m e d x)

  same_capacity : length after.positions.now ≡ length before.positions.now
  same_capacity = ap length w.noted ∙ length-set before.positions.now (place_of e) k

  pub written_indexed : Indexed after
  written_indexed =
      let ix = w.indexed in
      let lv = ix.level in
      let fw = ix.few in
      let r = w.room in
      let le = ap length w.entries ∙ length-set before.entries.now k e in
      let lp = same_capacity in
      record {
        level = omega arith;
        few = omega arith;
        fits = omega arith;
        inside = λ m d h. rw lp
            (⊎_elim
            (λ (s : m ≡ k). rw (s, at_k d) w.fits)
            (λ x. rw (at_other d m x) (ix.inside m d (w.others m h x)))
            (cases_eq m k));
        there = λ m d h. rw w.noted
            (⊎_elim
            (λ (s : m ≡ k). rw (s, at_k d) (get_or-set_same before.positions.now (place_of e) k 0 w.fits))
            (λ x. let l = w.others m h x in
            rw (at_other d m x)
            (get_or-set_other before.positions.now (place_of e) (place_of (entry_at before d m)) k 0 (w.alone m d l x) ∙ ix.there m d l))
            (cases_eq m k));
      }

  held_here : cost_at (counted after) (place_of e) ≡ Some e.1
  held_here = subst (λ (q : Place × C). cost_at (counted after) (place_of q) ≡ Some q.1) (at_k e) (held_some written_indexed k e w.counts)

  held_elsewhere : (q : ℕ) → (q ≡ place_of e → ⊥) → cost_at (counted after) q ≡ cost_at (counted before) q
  held_elsewhere q x =
      ⊎_elim
      (λ m.
      let y : m.0 ≡ k → ⊥ = λ t. x (sym m.2 ∙ ap (λ i. place_of (entry_at before e i)) t ∙ w.same e (subst (λ i. i < before.len) t m.1)) in
      let s = held_some w.indexed m.0 e m.1 in
      let t = held_some written_indexed m.0 e (let l = m.1 in let n = w.keeps in omega arith) in
      let u = at_other e m.0 y in
      let v = m.2 in
      cc)
      (λ y.
      held_none written_indexed q e
      (λ m h s. ⊎_elim
      (λ (t : m ≡ k). x (sym s ∙ ap (λ i. place_of (entry_at after e i)) t ∙ ap place_of (at_k e)))
      (λ z. y m (w.others m h z) (ap place_of (sym (at_other e m z)) ∙ s))
      (cases_eq m k))
      ∙ sym (held_none w.indexed q e y))
      (decided w.indexed q e)

  up_to : {leq : Place × C → Place × C → Bool} → Ranked leq → (d : Place × C) → Ordered leq before.len (entry_at before d) → (k < before.len → leq e (entry_at before d k) ≡ true) → Rising leq after.len (entry_at after d) k
  up_to {leq} o d ordered less = record {
    others = λ m h l x.
        let n = w.others m l x in
        rw (at_other d m x)
        (⊎_elim
        (λ (t : parent m ≡ k). rw (t, at_k d) (o.chain _ _ _ (less (omega arith)) (subst (λ q. leq (entry_at before d q) (entry_at before d m) ≡ true) t (ordered m h n))))
        (λ y. rw (at_other d (parent m) y) (ordered m h n))
        (cases_eq (parent m) k));
    across = λ m h l t pos.
        let n = w.others m l (λ s. omega arith) in
        rw (at_other d (parent k) (λ s. omega arith), at_other d m (λ s. omega arith))
        (o.chain _ _ _ (ordered k pos (omega arith)) (subst (λ q. leq (entry_at before d q) (entry_at before d m) ≡ true) t (ordered m h n)));
  }

-- The entry was written and sifted up.
module _ {C T : Type 0} (thing : C → T) {leq : T → T → Bool} (o : TotalOrder leq) {before middle after : Rows C} {k : ℕ} {e : Place × C}
    (r : Reordered middle after) (w : Written before middle k e) where
  pub written_put : lowered thing leq (cost_at (counted before) (place_of e)) e.1 ≡ Some e.1 → Put thing leq (meaning_of before) (meaning_of after) (place_of e) e.1 (Ok tt)
  written_put low = record {
    answer = rw (lt-ltb (place_of e) (length before.positions.now) w.fits);
    same_capacity = r.same_capacity ∙ same_capacity w;
    here = λ h. ap (option_map thing) (r.same_held (place_of e) ∙ held_here w ∙ sym low);
    no_room = λ h. let f = w.fits in absurd (omega arith);
    elsewhere = λ q x. ap (option_map thing) (r.same_held q ∙ held_elsewhere w q x);
  }

  pub written_ordered : (UpTo thing leq middle k → InOrder thing leq after) → ((d : Place × C) → k < before.len → ahead thing leq e (entry_at before d k) ≡ true) → InOrder thing leq before → InOrder thing leq after
  written_ordered sifted less ordered = sifted (λ d. up_to w (entries_ranked thing o) d (ordered d) (less d))

-- The cost of an entry that was found, beside a new cost for its place. x is the default that it was read at.
module _ {C T : Type 0} (thing : C → T) (leq : T → T → Bool) (rows : Rows C) (e : Place × C) (k : ℕ) (ix : Indexed rows) (found : Found rows (place_of e) (Some k)) (x : Place × C) where
  was_held : cost_at (counted rows) (place_of e) ≡ Some (entry_at rows x k).1
  was_held = ap (cost_at (counted rows)) (sym (found.1 x)) ∙ held_some ix k x found.0

  pub less_low : leq (thing (entry_at rows x k).1) (thing e.1) ≡ false → lowered thing leq (cost_at (counted rows) (place_of e)) e.1 ≡ Some e.1
  less_low less = ap (λ h. lowered thing leq h e.1) was_held ∙ rw less

  pub less_leq : TotalOrder leq → leq (thing (entry_at rows x k).1) (thing e.1) ≡ false → (d : Place × C) → ahead thing leq e (entry_at rows d k) ≡ true
  less_leq o less d =
      rw (default ix k d x found.0)
      (let t = o.total_leq _ _ less in rw (t, less))

  pub kept_put : leq (thing (entry_at rows x k).1) (thing e.1) ≡ true → Put thing leq (meaning_of rows) (meaning_of rows) (place_of e) e.1 (Ok tt)
  kept_put more =
      let fits = subst (λ p. p < length rows.positions.now) (found.1 e) (ix.inside k e found.0) in
      record {
        answer = rw (lt-ltb (place_of e) (length rows.positions.now) fits);
        same_capacity = refl;
        here = λ h. ap (option_map thing) (was_held ∙ sym (ap (λ h. lowered thing leq h e.1) was_held ∙ rw more));
        no_room = λ h. absurd (omega arith);
        elsewhere = λ q y. refl;
      }
