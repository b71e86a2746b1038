use Rattle.std.proofs.Common.{refl}
use Rattle.format.specs.Reading.{judged, fields}
use Rattle.cartridge.proofs.cartridges.Cartridge.blank.Goals as goal

pub invariant_of-result : goal.invariant_of-result
unfolding judged fields
invariant_of-result c = record { accepted = refl }
