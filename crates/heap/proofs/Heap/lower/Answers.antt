use Rattle.std.proofs.Common.{sym, refl}
use borrow.Author.Tests.{not-true, not-false}
use Rattle.fringe.specs.declared.place.Place.{Place}
use Rattle.heap.proofs.Puts.{rewritten, written_put, written_ordered, kept_put, less_low, less_leq}
use Rattle.heap.proofs.Heap.lower.Goals as goal

pub returns-then-less : goal.returns-then-less
returns-then-less g c =
    let o = g.C.Order in
    let rows = c.args.self.now.rows in
    let ix = c.args.self.now.indexed in
    let held = c.requires in
    let u = c.sift_up.ensures in
    let total = g.met.C.Order.ordered in
    let r = rewritten ix c.args.position held refl refl refl in
    let e : Place × g.row.C.Denot = (c.args.place, c.args.cost) in
    let less = not-true _ (sym c.if-less.ensures) in
    record {
      put = written_put o.thing total u.reordered r (less_low o.thing o.leq rows e c.args.position ix held c.index-self-position.result less);
      ordered = written_ordered o.thing total u.reordered r u.ordered (λ d h. less_leq o.thing o.leq rows e c.args.position ix held c.index-self-position.result total less d);
    }

pub returns-else-less-clause-put : goal.returns-else-less-clause-put
returns-else-less-clause-put g c =
    let e : Place × g.row.C.Denot = (c.args.place, c.args.cost) in
    let heap = c.args.self.now in
    kept_put g.C.Order.thing g.C.Order.leq heap.rows e c.args.position heap.indexed c.requires c.index-self-position.result (not-false _ (sym c.if-less.ensures))
