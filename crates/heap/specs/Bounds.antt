-- A heap holds nothing beyond its capacity: the proof, which the heap hands over.
use Rattle.std.specs.Prelude.{◌≡◌, ℕ, suc, ◌<◌, List, [], ◌∷◌, length, take, None, ◌≢◌, slice_index_or, refl}
use Rattle.std.proofs.Common.{arith, length-take, get_or-take, ne_eqb}
use Rattle.fringe.specs.declared.place.Place.{Place}
use Rattle.fringe.specs.Fringes.{Bounded}
use Rattle.heap.specs.declared.Rows.{Rows}
use Rattle.heap.specs.Heaps.{place_of, cost_at, meaning_of}
use Rattle.heap.specs.Indexes.{Inside}

-- Among entries of other places nothing is found.
pub cost_none : {C : Type 0} (es : List (Place × C)) (p : ℕ) → ((k : ℕ) (d : Place × C) → k < length es → place_of (slice_index_or es k d) ≢ p) → cost_at es p ≡ None
cost_none [] p apart = refl
cost_none (e ∷ es) p apart =
    rw (ne_eqb (place_of e) p (apart 0 e (omega arith))) (cost_none es p (λ k d h. apart (suc k) d (omega arith)))

-- The same among the first n entries.
pub first_none : {C : Type 0} (n : ℕ) (es : List (Place × C)) (p : ℕ) → ((k : ℕ) (d : Place × C) → k < n → place_of (slice_index_or es k d) ≢ p) → cost_at (take n es) p ≡ None
first_none n es p apart =
    cost_none (take n es) p (λ k d h.
    let e = length-take n es in
    let l : k < n = omega arith in
    rw (get_or-take n es k d l) (apart k d l))

-- Where each entry that counts is of a place below the capacity, nothing is held beyond it.
pub bounded_of : {C : Type 0} (rows : Rows C) → Inside rows → Bounded (meaning_of rows)
bounded_of rows inside q h =
    first_none rows.len rows.entries.now q (λ k d l e. let i = inside k d l in omega arith)
