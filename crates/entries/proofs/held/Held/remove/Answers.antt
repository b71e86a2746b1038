use Rattle.entries.proofs.Holding.{changed}
use Rattle.entries.proofs.held.Held.remove.Goals as goal

pub returns-clause-after : goal.returns-clause-after
returns-clause-after g c = changed _ c.args.self.now c.remove.new.self _ c.remove.result c.remove.ensures.after
