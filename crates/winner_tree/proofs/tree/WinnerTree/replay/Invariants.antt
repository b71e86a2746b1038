use Rattle.std.proofs.Common.{◌≡◌, ◌*◌, ◌/◌, ◌<◌, length}
use Rattle.winner_tree.specs.Tournaments.{InOrderBut}
use Rattle.winner_tree.proofs.tree.WinnerTree.replay.Given as goal

-- The only match that may be open is the one above the node that was reached.
abbrev pub invariant-loop-node : goal.invariant-loop-node
invariant-loop-node g l =
    (l.node < 2 * length l.self.costs.now) ×
    (l.self.costs.now ≡ l.initial.self.costs.now) ×
    (InOrderBut g.C.Order.thing g.C.Order.leq (l.initial.node / 2) l.initial.self.costs.now l.initial.self.winners.now
    → InOrderBut g.C.Order.thing g.C.Order.leq (l.node / 2) l.self.costs.now l.self.winners.now)

abbrev pub decreases-loop-node : goal.decreases-loop-node
decreases-loop-node g l = l.node
