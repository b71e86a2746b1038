use Rattle.winner_tree.proofs.Replays.{rows_written}
use Rattle.winner_tree.proofs.tree.WinnerTree.write.Goals as goal

pub returns-clause-order : goal.returns-clause-order
returns-clause-order g c before =
    let tree = c.args.self.now in
    c.replay.ensures.order (rows_written g.C.Order.thing g.C.Order.leq tree.costs.now tree.winners.now c.args.p c.args.cost before)
