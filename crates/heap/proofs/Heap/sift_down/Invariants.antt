use Rattle.std.proofs.Common.{◌-◌, ◌≤◌}
use Rattle.heap.specs.Sifts.{Reordered, DownFrom}
use Rattle.heap.proofs.Heap.sift_down.Given as goal

abbrev pub invariant-loop-child : goal.invariant-loop-child
invariant-loop-child g l =
    (l.parent ≤ l.self.rows.len) ×
    Reordered l.initial.self.rows l.self.rows ×
    (DownFrom g.C.Order.thing g.C.Order.leq l.initial.self.rows 0 → DownFrom g.C.Order.thing g.C.Order.leq l.self.rows l.parent)

abbrev pub decreases-loop-child : goal.decreases-loop-child
decreases-loop-child g l = l.initial.self.rows.len - l.parent
