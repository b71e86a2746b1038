use Rattle.std.proofs.Common.{sym, arith}
use borrow.Author.Tests.{not-true, not-false}
use Rattle.fringe.proofs.Ranks.{entries_ranked}
use Rattle.heap.proofs.Entries.{again}
use Rattle.heap.proofs.Sinks.{first_at, sunk, sunk_last, sinks}
use Rattle.heap.proofs.Heap.sift_down.Goals as goal

pub returns-then-not-is_before-clause-ordered : goal.returns-then-not-is_before-clause-ordered
returns-then-not-is_before-clause-ordered g c down d =
    sunk (entries_ranked g.C.Order.thing g.met.C.Order.ordered) (c.loop-child.invariant.2 down d) (first_at c.in-Some.ensures d)
    (not-false _ (sym (c.if-not-is_before.ensures d)))

pub loop-child-preserved : goal.loop-child-preserved
loop-child-preserved g c =
    let inv = c.loop-child.invariant in
    let f = c.in-Some.ensures in
    let l = f.later in
    let w = f.within in
    let s = c.swap.ensures in
    let n = s.reordered.same_len in (
      omega arith,
      again inv.1 s.reordered,
      λ down d. rw n
          (sinks (entries_ranked g.C.Order.thing g.met.C.Order.ordered) (inv.2 down d) (first_at f d) (s.swapped d)
          (not-true _ (sym (c.if-not-is_before.ensures d)))),
    )

pub returns-clause-ordered : goal.returns-clause-ordered
returns-clause-ordered g c down d =
    sunk_last (entries_ranked g.C.Order.thing g.met.C.Order.ordered) (c.loop-child.invariant.2 down d) c.in_default.ensures
