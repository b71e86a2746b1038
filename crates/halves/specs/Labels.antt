-- What a label says, and how the steps of a search change it.
use Rattle.std.specs.Prelude.{ℕ, Bool, true, false, cond, not, List, Some, None, Option, slice_index_or, slice_set}
use Rattle.fringe.specs.declared.place.Place.{Place}
use Rattle.map.specs.declared.numbers.RoadId.{RoadId}
use Rattle.routes.specs.declared.labels.Origin.TheVariants.{Road as by_road}
use Rattle.routes.specs.declared.labels.Label.{Label}
use Rattle.routes.specs.declared.labels.Label.TheVariants.{Blank, Reached, Settled}
use Rattle.routes.specs.Parts.{finished}

module _ {C : Type 0} where
  -- The label of a place: past the end of the row all are blank.
  abbrev pub spot : List (Label C) → ℕ → Label C
  spot labels v = slice_index_or labels v Blank

  -- The row once the place v is settled.
  abbrev pub settled_at : ℕ → List (Label C) → List (Label C)
  settled_at v labels = slice_set labels v (finished (spot labels v))

  -- A place with its cost, if it has one.
  abbrev pub paired : Place → Option C → Option (Place × C)
  paired p None = None
  paired p (Some c) = Some (p, c)

module _ {C T : Type 0} (thing : C → T) (leq : T → T → Bool) where
  -- Whether a cost may take the label's place: it is blank, or reached at more.
  abbrev pub improves : C → Label C → Bool
  improves c Blank = true
  improves c (Reached d o) = not (leq (thing d) (thing c))
  improves c (Settled d o) = false

  -- The label once it was offered the cost c over the road r.
  abbrev pub offered : C → RoadId → Label C → Label C
  offered c r l = cond (improves c l) (Reached c (by_road r)) l

  -- The row once the place v was offered the cost c over the road r. A place past its end changes nothing.
  abbrev pub offered_at : C → RoadId → ℕ → List (Label C) → List (Label C)
  offered_at c r v labels = slice_set labels v (offered c r (spot labels v))
