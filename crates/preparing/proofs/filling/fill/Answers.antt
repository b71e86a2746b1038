use Rattle.std.proofs.Common.{sym, refl, ◌∙◌, arith}
use Rattle.preparing.proofs.Entered.{entered_none, entered_own, entered_on}
use Rattle.preparing.proofs.filling.fill.Goals as goal
use Rattle.preparing.proofs.filling.fill.Goals.{then-j-from, else-j-from}

pub loop-j-init : goal.loop-j-init
loop-j-init g c = entered_none _ _ _ _ _ _ _ _ c.own_entry-own.result refl c.own_entry-own.ensures.own

pub loop-j-preserved : goal.loop-j-preserved
loop-j-preserved g c =
    elim c.if-j-from.branch [
      | then-j-from w ↦ entered_on _ _ _ _ _ _ _ _ c.loop-j.invariant w.entry_by.result w.row-is (λ e. w.if-j-from.true (e ∙ sym c.from.ensures)) (omega arith) w.entry_by.ensures
      | else-j-from w ↦ entered_own _ _ _ _ _ _ _ _ c.loop-j.invariant w.row-is (w.if-j-from.false ∙ c.from.ensures)
    ]
