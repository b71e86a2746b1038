-- What the search is, by the members of a measure: `o` are those of its order, and `k` its own.
use Rattle.fringe.specs.declared.order.Order.{Ghosts as OrderOf}
use Rattle.measure.specs.declared.measures.Measure.{Ghosts as MeasureOf}
use Rattle.routes.specs.Search.{Ops, ops_of}
use Rattle.routes.specs.Asking.{Promised}

-- How the search sums and compares costs.
abbrev pub operations : {K : Type 0} → OrderOf K → MeasureOf K → Ops K
operations o k = ops_of o.thing o.leq k.plus k.nil k.top

-- The search keeps its promise.
abbrev pub Kept : {K : Type 0} → OrderOf K → MeasureOf K → Type 0
Kept o k = Promised o.thing o.leq k.plus k.nil k.top k.cost
