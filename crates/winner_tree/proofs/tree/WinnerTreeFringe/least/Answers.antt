use Rattle.winner_tree.proofs.Champions.{champion_least}
use Rattle.winner_tree.proofs.tree.WinnerTreeFringe.least.Goals as goal

pub returns : goal.returns
returns g c well =
    let tree = c.args.self.now in
    champion_least g.C.Order.thing g.met.C.Order.ordered tree.costs.now tree.winners.now well c.champion.result c.champion.ensures
