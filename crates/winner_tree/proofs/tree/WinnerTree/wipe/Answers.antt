use Rattle.std.proofs.Common.{None, Some, refl}
use Rattle.winner_tree.proofs.Replays.{free_cells}
use Rattle.winner_tree.proofs.tree.WinnerTree.wipe.Goals as goal

pub returns-clause-emptied : goal.returns-clause-emptied
returns-clause-emptied g c = record {
  same_capacity = c.fill.ensures.len;
  empty = free_cells _ (c.fill.ensures.after (elim [ None ↦ λ _. refl | Some _ ↦ absurd ]));
}
