use Rattle.heap.proofs.Firsts.{first_least}
use Rattle.heap.proofs.Heap.first.Goals as goal

pub returns : goal.returns
returns g c ordered =
    let heap = c.args.self.now in
    first_least g.C.Order.thing g.met.C.Order.ordered heap.rows heap.indexed ordered c.requires c.index-self-0.result
