use Rattle.std.proofs.Common.{◌/◌, length, sym, ap, ◌∙◌, subst, arith}
use Rattle.winner_tree.specs.Tournaments.{InOrderBut}
use Rattle.winner_tree.proofs.Replays.{rows_replayed}
use Rattle.winner_tree.proofs.tree.WinnerTree.replay.Goals as goal

pub loop-node-preserved : goal.loop-node-preserved
loop-node-preserved g c =
    let o = g.C.Order in
    let inv = c.loop-node.invariant in
    let k = c.loop-node.node / 2 in
    let tree = c.loop-node.self in
    let tree' = c.play.new.self in
    let even = tree.even in
    let same = c.play.ensures.costs in (
      let l = ap length same in omega arith,
      same ∙ inv.1,
      λ before. subst (λ l. InOrderBut o.thing o.leq (k / 2) l tree'.winners.now) (sym same)
          (rows_replayed o.thing o.leq tree.costs.now tree.winners.now tree'.winners.now k (omega arith) (omega arith) even c.play.ensures.winners (inv.2 before)),
    )
