-- When a fringe agrees with a row of labels, and when it stays as it should.
use Rattle.std.specs.Prelude.{◌≡◌, ℕ, ◌≤◌, Bool, List, length}
use Rattle.fringe.specs.Fringes.{Meaning, Alike}
use Rattle.routes.specs.declared.labels.Label.{Label}
use Rattle.halves.specs.Labels.{spot}
use Rattle.routes.specs.Parts.{waiting}

-- The fringe is in order, takes every place of the row, and holds the cost of each place that is reached, up to what
-- costs stand for, and nothing else: past the end of the row all labels are blank.
pub record Agree {C T : Type 0} (thing : C → T) (leq : T → T → Bool) (well : Type 0) (fringe : Meaning C) (labels : List (Label C)) : Type 0 where
  pub in_order : well
  pub fits : length labels ≤ fringe.capacity
  pub holds : (v : ℕ) → Alike thing leq (fringe.held v) (waiting (spot labels v))

-- The fringe is in order and takes the places that it took before.
pub record Steady {C : Type 0} (well : Type 0) (before after : Meaning C) : Type 0 where
  pub in_order : well
  pub same_capacity : after.capacity ≡ before.capacity
