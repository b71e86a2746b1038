use Rattle.std.proofs.Common.{length, ap, ◌∙◌}
use Rattle.heap.proofs.Entries.{some_entry}
use Rattle.heap.proofs.Swaps.{Exchanged, reordered, still_indexed}
use Rattle.heap.proofs.Rows.swap.Goals as goal

pub returns : goal.returns
returns g c =
    let w = c.requires in
    let s = c.swap.ensures in
    let t = c.note.ensures in
    let u = c.note-2.ensures in
    let e = u.same_entries ∙ t.same_entries in
    let x : Exchanged c.args.self.now c.note-2.new.self c.args.i c.args.j = record {
      indexed = w.indexed;
      il = w.counts.0;
      jl = w.counts.1;
      swapped = λ d. rw e (s.by_index.0 d, s.by_index.1 d, λ k. s.by_index.2 k d);
      same_len = u.same_len ∙ t.same_len;
      same_length = ap length e ∙ s.len;
      noted = λ d. rw (e, u.noted d, t.noted d, t.same_entries);
    } in
    let d = some_entry w.indexed w.counts.0 in
    record { swapped = x.swapped; reordered = reordered x d; indexed = still_indexed x d }
