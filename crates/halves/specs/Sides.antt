-- A side of a search by the members of its traits: `o` are those of the order of its costs, and `f` those of its fringe.
use Rattle.std.specs.Prelude.{List}
use Rattle.fringe.specs.declared.order.Order.{Ghosts as OrderOf}
use Rattle.fringe.specs.declared.fringes.Fringe.{Ghosts as FringeOf}
use Rattle.routes.specs.declared.labels.Label.{Label}
use Rattle.halves.specs.Agreement.{Agree, Steady}

-- The fringe agrees with the row of labels.
abbrev pub Agrees : {C F : Type 0} → OrderOf C → FringeOf F C → F → List (Label C) → Type 0
Agrees o f fringe labels = Agree o.thing o.leq (f.well fringe) (f.meaning fringe) labels

-- The fringe is in order afterwards, and takes the places that it took before.
abbrev pub Steadied : {C F : Type 0} → FringeOf F C → (before after : F) → Type 0
Steadied f before after = Steady (f.well after) (f.meaning before) (f.meaning after)
