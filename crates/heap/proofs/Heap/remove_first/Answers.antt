use Rattle.std.proofs.Common.{◌-◌, refl, arith}
use Rattle.heap.proofs.Firsts.{Shorter, first_taken, first_sinks}
use Rattle.heap.proofs.Heap.remove_first.Goals as goal

pub returns : goal.returns
returns g c =
    let o = g.C.Order in
    let total = g.met.C.Order.ordered in
    let rows = c.args.self.now.rows in
    let ix = c.args.self.now.indexed in
    let s = c.swap.ensures in
    let u = c.sift_down.ensures in
    let n = s.reordered.same_len in
    let cut : Shorter c.swap.new.self (record c.swap.new.self { len = rows.len - 1 }) = record { indexed = s.indexed; len = omega arith; same_entries = refl; same_positions = refl } in
    record {
      taken = first_taken o.thing total ix s.swapped s.reordered cut u.reordered c.index-self-0.result;
      ordered = λ ordered. u.ordered (first_sinks o.thing total ix s.swapped s.reordered cut u.reordered ordered);
    }
