use Rattle.std.proofs.Common.{◌<◌}
use Rattle.heap.specs.Sifts.{Reordered, UpTo}
use Rattle.heap.proofs.Heap.sift_up.Given as goal

abbrev pub invariant-loop-child : goal.invariant-loop-child
invariant-loop-child g l =
    (l.child < l.self.rows.len) ×
    Reordered l.initial.self.rows l.self.rows ×
    (UpTo g.C.Order.thing g.C.Order.leq l.initial.self.rows l.initial.child → UpTo g.C.Order.thing g.C.Order.leq l.self.rows l.child)

abbrev pub decreases-loop-child : goal.decreases-loop-child
decreases-loop-child g l = l.child
