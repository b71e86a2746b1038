use Rattle.std.proofs.Common.{set, refl, ap, arith}
use Rattle.fringe.specs.declared.place.Place.{Place}
use Rattle.fringe.specs.Fringes.{lowered}
use Rattle.heap.proofs.Entries.{held_none}
use Rattle.heap.proofs.Puts.{room_left, appended, written_indexed, written_put, written_ordered}
use Rattle.heap.proofs.Heap.insert.Goals as goal

pub bounds-self-last : goal.bounds-self-last
bounds-self-last g c =
    let w = c.requires in
    let heap = c.args.self.now in
    let r = room_left heap.rows (c.args.place, c.args.cost) heap.indexed w.fits w.absent in
    let l = heap.indexed.level in
    omega arith

pub invariant_of-self-2 : goal.invariant_of-self-2
invariant_of-self-2 g c =
    let rows = c.args.self.now.rows in
    let w = c.requires in
    let e : Place × g.row.C.Denot = (c.args.place, c.args.cost) in
    record { indexed = written_indexed {e = e} (appended c.args.self.now.indexed w.fits w.absent refl refl (ap (λ p. set rows.positions.now p rows.len) c.from.ensures)) }

pub returns : goal.returns
returns g c =
    let o = g.C.Order in
    let rows = c.args.self.now.rows in
    let ix = c.args.self.now.indexed in
    let e : Place × g.row.C.Denot = (c.args.place, c.args.cost) in
    let w = c.requires in
    let u = c.sift_up.ensures in
    let total = g.met.C.Order.ordered in
    let a = appended ix w.fits w.absent refl refl (ap (λ p. set rows.positions.now p rows.len) c.from.ensures) in
    record {
      put = written_put o.thing total u.reordered a (ap (λ h. lowered o.thing o.leq h c.args.cost) (held_none ix c.args.place.0 e (λ k. w.absent k e)));
      ordered = written_ordered o.thing total u.reordered a u.ordered (λ d h. absurd (omega arith));
    }
