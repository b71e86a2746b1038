use Rattle.measure.proofs.SteepnessLaws.{steepness_laws}
use Rattle.measure.proofs.steepness.lawful.Goals as goal

pub returns : goal.returns
returns c = steepness_laws
