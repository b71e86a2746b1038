-- How the entries of a fringe, places with their costs, compare.
use Rattle.std.specs.Prelude.{Bool, true, false, cond, nat_le}
use Rattle.fringe.specs.declared.place.Place.{Place}

module _ {C T : Type 0} (thing : C → T) (leq : T → T → Bool) where
  -- Whether a comes before b or is b: by the cost, and of equal costs by the place.
  abbrev pub ahead : Place × C → Place × C → Bool
  ahead a b =
      cond (leq (thing a.1) (thing b.1)) (cond (leq (thing b.1) (thing a.1)) (nat_le a.0.0 b.0.0) true) false
