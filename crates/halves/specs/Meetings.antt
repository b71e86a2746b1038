-- Where two sides meet.
use Rattle.std.specs.Prelude.{ℕ, Bool, cond, not, ◌&&◌, ◌||◌, List, [], ◌∷◌, Some, None, Option, nat_lt}
use Rattle.fringe.specs.declared.place.Place.{Place}
use Rattle.map.specs.declared.roads.Road.{Road}
use Rattle.map.specs.Model.{MapModel}
use Rattle.routes.specs.declared.labels.Label.{Label}
use Rattle.routes.specs.Parts.{paid}
use Rattle.routes.specs.Asking.{is_open}
use Rattle.halves.specs.Labels.{spot}

module _ {C : Type 0} where
  -- The sum of two costs, if both are there.
  abbrev pub joined : (C → C → C) → Option C → Option C → Option C
  joined plus None b = None
  joined plus (Some a) None = None
  joined plus (Some a) (Some b) = Some (plus a b)

  -- What both sides together pay at a place, if both have labelled it.
  abbrev pub sum_at : (C → C → C) → List (Label C) → List (Label C) → ℕ → Option C
  sum_at plus own other v = joined plus (paid (spot own v)) (paid (spot other v))

module _ {C T : Type 0} (thing : C → T) (leq : T → T → Bool) where
  -- Whether the cost c at the place v comes before what was found: it is less, or they are equal and v is lower.
  abbrev pub comes_first : Place × C → Place → C → Bool
  comes_first b v c = not (leq (thing b.1) (thing c)) || (leq (thing c) (thing b.1) && nat_lt v.0 b.0.0)

  -- The better of what was found and the place v with its cost, if it has one.
  abbrev pub nearer : Option (Place × C) → Place → Option C → Option (Place × C)
  nearer found v None = found
  nearer None v (Some c) = Some (v, c)
  nearer (Some b) v (Some c) = cond (comes_first b v c) (Some (v, c)) (Some b)

  module _ (plus : C → C → C) (own other : List (Label C)) where
    -- The better of what was found and the end of a road, if there is one and it is open.
    abbrev pub met_over : Option Road → Option (Place × C) → Option (Place × C)
    met_over None found = found
    met_over (Some x) found = cond (is_open x.mark) (nearer found x.end (sum_at plus own other x.end.0)) found

    -- The best of what was found and the ends of the roads of these numbers.
    abbrev pub best_along : MapModel → List ℕ → Option (Place × C) → Option (Place × C)
    best_along m [] found = found
    best_along m (r ∷ rs) found = best_along m rs (met_over (m.road r) found)
