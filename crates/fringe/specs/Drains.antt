-- What draining a fringe promises, over what the fringe holds before and after and the entries written down.
use Rattle.std.specs.Prelude.{◌≡◌, ℕ, ◌<◌, Bool, true, List, length, Some, None, ◌≢◌}
use Rattle.std.specs.List.{slice_get}
use Rattle.fringe.specs.declared.place.Place.{Place}
use Rattle.fringe.specs.Fringes.{Meaning, Empty, Alike}

module _ {C T : Type 0} (thing : C → T) (leq : T → T → Bool) where
  -- The cost c at the place p comes before the cost d at the place q: it is less, or they are equal and p is lower.
  pub record Before (p : ℕ) (c : C) (q : ℕ) (d : C) : Type 0 where
    pub at_most : leq (thing c) (thing d) ≡ true
    pub lower : leq (thing d) (thing c) ≡ true → p < q

  -- The first n entries of the list were taken out of the fringe, in turn.
  pub record Drawn (before after : Meaning C) (n : ℕ) (out : List (Place × C)) : Type 0 where
    pub same_capacity : after.capacity ≡ before.capacity
    -- the entries rise, strictly
    pub rising : (i j : ℕ) (a b : Place × C) → i < j → j < n → slice_get out i ≡ Some a → slice_get out j ≡ Some b →
        Before a.0.0 a.1 b.0.0 b.1
    -- each was held
    pub was_held : (i : ℕ) (a : Place × C) → i < n → slice_get out i ≡ Some a → Alike thing leq (before.held a.0.0) (Some a.1)
    -- and is held no more
    pub gone : (i : ℕ) (a : Place × C) → i < n → slice_get out i ≡ Some a → after.held a.0.0 ≡ None
    -- what is held at a place of no such entry is held as before
    pub elsewhere : (q : ℕ) → ((i : ℕ) (a : Place × C) → i < n → slice_get out i ≡ Some a → a.0.0 ≢ q) →
        Alike thing leq (after.held q) (before.held q)
    -- what is left comes after each of the entries
    pub left : (i q : ℕ) (a : Place × C) (d : C) → i < n → slice_get out i ≡ Some a → after.held q ≡ Some d →
        Before a.0.0 a.1 q d

  -- A fringe was drained into the list, n entries: all that it held, or as many as the list takes.
  pub record Drained (before after : Meaning C) (n : ℕ) (out : List (Place × C)) : Type 0 where
    pub drawn : Drawn before after n out
    pub all : n < length out → Empty after
