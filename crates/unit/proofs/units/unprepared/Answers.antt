use Rattle.std.proofs.Common.{is_some, sym, ap, ◌∙◌}
use Rattle.histories.proofs.Rows.{prepared_is}
use Rattle.unit.proofs.units.unprepared.Goals as goal

pub returns : goal.returns
returns c = λ i. sym (prepared_is c.new.result i) ∙ ap is_some (c.new.ensures i 0)
