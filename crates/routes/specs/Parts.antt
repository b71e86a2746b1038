-- What a label says.
use Rattle.std.specs.Prelude.{Some, None, Option}
use Rattle.routes.specs.declared.labels.Origin.{Origin}
use Rattle.routes.specs.declared.labels.Label.{Label}
use Rattle.routes.specs.declared.labels.Label.TheVariants.{Blank, Reached, Settled}

module _ {C : Type 0} where
  -- The cost in a label.
  abbrev pub paid : Label C → Option C
  paid Blank = None
  paid (Reached c o) = Some c
  paid (Settled c o) = Some c

  -- Where a label comes from.
  abbrev pub origin_in : Label C → Option Origin
  origin_in Blank = None
  origin_in (Reached c o) = Some o
  origin_in (Settled c o) = Some o

  -- The cost of a place that is reached and waits to be settled.
  abbrev pub waiting : Label C → Option C
  waiting Blank = None
  waiting (Reached c o) = Some c
  waiting (Settled c o) = None

  -- The cost of a place that is settled.
  abbrev pub final_cost : Label C → Option C
  final_cost Blank = None
  final_cost (Reached c o) = None
  final_cost (Settled c o) = Some c

  -- The label once its place is settled.
  abbrev pub finished : Label C → Label C
  finished Blank = Blank
  finished (Reached c o) = Settled c o
  finished (Settled c o) = Settled c o
