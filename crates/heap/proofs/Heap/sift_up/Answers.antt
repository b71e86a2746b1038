use Rattle.std.proofs.Common.{sym, arith}
use borrow.Author.Tests.{not-true, not-false}
use Rattle.fringe.proofs.Ranks.{entries_ranked}
use Rattle.heap.proofs.Entries.{again}
use Rattle.heap.proofs.Rises.{risen, risen_first, rises}
use Rattle.heap.proofs.Heap.sift_up.Goals as goal

pub returns-then-not-is_before-clause-ordered : goal.returns-then-not-is_before-clause-ordered
returns-then-not-is_before-clause-ordered g c up d =
    risen (entries_ranked g.C.Order.thing g.met.C.Order.ordered) (c.loop-child.invariant.2 up d) (not-false _ (sym (c.if-not-is_before.ensures d)))

pub loop-child-preserved : goal.loop-child-preserved
loop-child-preserved g c =
    let inv = c.loop-child.invariant in
    let s = c.swap.ensures in
    let n = s.reordered.same_len in (
      omega arith,
      again inv.1 s.reordered,
      λ up d. rw n
          (rises (entries_ranked g.C.Order.thing g.met.C.Order.ordered) (inv.2 up d) (s.swapped d) c.loop-child-test.true inv.0
          (not-true _ (sym (c.if-not-is_before.ensures d)))),
    )

pub returns-clause-ordered : goal.returns-clause-ordered
returns-clause-ordered g c up d =
    risen_first (entries_ranked g.C.Order.thing g.met.C.Order.ordered) (c.loop-child.invariant.2 up d) (omega arith)
