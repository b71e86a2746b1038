use Rattle.format.proofs.Accepted.{accepted_facts}
use Rattle.cartridge.proofs.cartridges.Cartridge.fields.Goals as goal

pub invariant_of-result : goal.invariant_of-result
invariant_of-result c = let s = c.args.self.now in record { whole = (accepted_facts s.bytes.now s.accepted).long }
