use Rattle.layers.proofs.Running.{Going}
use Rattle.layers.proofs.layer.Layer.perform.Given as goal

abbrev pub invariant-loop-call : goal.invariant-loop-call
invariant-loop-call g l = Going g.E.Entry.road g.E.Entry.again g.E.Kind.rules g.G.Map.model l.initial.self l.calls l.call-index l.self
