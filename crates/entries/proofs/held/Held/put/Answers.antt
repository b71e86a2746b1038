use Rattle.entries.proofs.Holding.{changed}
use Rattle.entries.proofs.held.Held.put.Goals as goal

pub returns-clause-after : goal.returns-clause-after
returns-clause-after g c = changed _ c.args.self.now c.put.new.self _ c.put.result c.put.ensures.after
