use Rattle.table.proofs.Blank.{no_row}
use Rattle.table.proofs.tables.none_prepared.Goals as goal

pub returns : goal.returns
returns c = no_row
