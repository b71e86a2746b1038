-- A measure by the members of its two traits: `o` are those of its order, and `k` its own.
use Rattle.fringe.specs.declared.order.Order.{Ghosts as OrderOf}
use Rattle.measure.specs.declared.measures.Measure.{Ghosts as MeasureOf}
use Rattle.measure.specs.Costs.{CostLaws}

-- The laws of a measure hold of the members.
abbrev pub Lawful : {S : Type 0} → OrderOf S → MeasureOf S → Type 0
Lawful o k = CostLaws o.thing o.leq k.plus k.nil k.top k.cost k.code
