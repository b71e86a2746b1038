-- What the calls of a fringe promise, over its capacity and what it holds at each place.
-- Costs are compared by what they stand for: `thing` and `leq` are those of their order.
use Rattle.std.specs.Prelude.{◌≡◌, ℕ, ◌<◌, ◌≤◌, Bool, true, false, cond, Some, None, Ok, Err, Option, Result, ◌≢◌, nat_lt}
use Rattle.std.specs.Option.{option_map}
use Rattle.fringe.specs.declared.place.Place.{Place}
use Rattle.fringe.specs.declared.fringes.Refusal.{Refusal}
use Rattle.fringe.specs.declared.fringes.Refusal.TheVariants.{NoRoom}

-- What a fringe means: it takes the places below `capacity`, and holds a cost or nothing at each.
pub record Meaning (C : Type 0) : Type 0 where
  pub capacity : ℕ
  pub held : ℕ → Option C

-- The fringe holds nothing.
abbrev pub Empty : {C : Type 0} → Meaning C → Type 0
Empty m = (q : ℕ) → m.held q ≡ None

-- Nothing is held beyond the capacity.
abbrev pub Bounded : {C : Type 0} → Meaning C → Type 0
Bounded m = (q : ℕ) → m.capacity ≤ q → m.held q ≡ None

-- The fringe was emptied, and takes the places that it took before.
pub record Emptied {C : Type 0} (before after : Meaning C) : Type 0 where
  pub same_capacity : after.capacity ≡ before.capacity
  pub empty : Empty after

-- What a put at the place p answers: the place fits if it is below the capacity.
abbrev pub put_answer : ℕ → ℕ → Result Unit Refusal
put_answer capacity p = cond (nat_lt p capacity) (Ok tt) (Err NoRoom)

module _ {C T : Type 0} (thing : C → T) (leq : T → T → Bool) where
  -- Nothing and nothing, or two costs that stand for one thing.
  abbrev pub Alike : Option C → Option C → Type 0
  Alike a b = option_map thing a ≡ option_map thing b

  -- What is held at a place once the cost c was put there: c, unless what was held is at most c.
  abbrev pub lowered : Option C → C → Option C
  lowered None c = Some c
  lowered (Some d) c = cond (leq (thing d) (thing c)) (Some d) (Some c)

  -- A put: it answers by the capacity alone, and only what is held at a place that fits is lowered.
  pub record Put (before after : Meaning C) (p : ℕ) (c : C) (r : Result Unit Refusal) : Type 0 where
    pub answer : r ≡ put_answer before.capacity p
    pub same_capacity : after.capacity ≡ before.capacity
    pub here : p < before.capacity → Alike (after.held p) (lowered (before.held p) c)
    pub no_room : before.capacity ≤ p → Alike (after.held p) (before.held p)
    pub elsewhere : (q : ℕ) → (q ≢ p) → Alike (after.held q) (before.held q)

  -- The cost c, held at the place p, is the least, and no lower place holds its equal.
  pub record First (m : Meaning C) (p : ℕ) (c : C) : Type 0 where
    pub there : Alike (m.held p) (Some c)
    pub least : (q : ℕ) (d : C) → m.held q ≡ Some d → leq (thing c) (thing d) ≡ true
    pub lowest : (q : ℕ) (d : C) → m.held q ≡ Some d → q < p → leq (thing d) (thing c) ≡ false

  -- What `least` answers: nothing only of an empty fringe, otherwise the first.
  abbrev pub Least : Meaning C → Option (Place × C) → Type 0
  Least m None = Empty m
  Least m (Some r) = First m r.0.0 r.1

  -- The place p was taken out, and nothing else.
  pub record Gone (before after : Meaning C) (p : ℕ) : Type 0 where
    pub gone : after.held p ≡ None
    pub elsewhere : (q : ℕ) → (q ≢ p) → Alike (after.held q) (before.held q)

  -- What is held after a take that answered so.
  abbrev pub Without : Meaning C → Meaning C → Option (Place × C) → Type 0
  Without before after None = Empty after
  Without before after (Some r) = Gone before after r.0.0

  -- A take: it answers the least and takes it out.
  pub record Taken (before after : Meaning C) (r : Option (Place × C)) : Type 0 where
    pub answer : Least before r
    pub same_capacity : after.capacity ≡ before.capacity
    pub rest : Without before after r
