use Rattle.std.proofs.Common.{◌≡◌, true, sym, ◌∙◌, add-one, arith, below_more}
use Rattle.cartridge.specs.Orders.{rises_at}
use Rattle.cartridge.proofs.orders.first_fall.Goals as goal

pub returns-then-not-rises-clause-falls : goal.returns-then-not-rises-clause-falls
returns-then-not-rises-clause-falls g c = λ key h.
    let v = c.loop-i.invariant key h in
    let e = h c.loop-i.i c.index-entries-i.result c.key_of-key.result (omega arith) (record { shown = _; shows = c.index-entries-i.is; says = record { met = c.key_of-key.ensures } }) in
    (omega arith, rw (v.0, e) at (sym c.rises.ensures ∙ c.if-not-rises.true), v.1)

pub loop-i-preserved : goal.loop-i-preserved
loop-i-preserved g c = λ key h.
    let v = c.loop-i.invariant key h in
    let e = h c.loop-i.i c.index-entries-i.result c.key_of-key.result (omega arith) (record { shown = _; shows = c.index-entries-i.is; says = record { met = c.key_of-key.ensures } }) in
    let s = rw (v.0, e) at (sym c.rises.ensures ∙ c.if-not-rises.false) in
    (rw add-one e, below_more (λ i. rises_at key i ≡ true) c.loop-i.i v.1 s)

pub returns-clause-falls : goal.returns-clause-falls
returns-clause-falls g c = λ key h i l. (c.loop-i.invariant key h).1 i (omega arith)
