use Rattle.measure.proofs.TimeLaws.{time_laws}
use Rattle.measure.proofs.time.lawful.Goals as goal

pub returns : goal.returns
returns c = time_laws
