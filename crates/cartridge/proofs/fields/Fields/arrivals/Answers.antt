use Rattle.std.proofs.Common.{◌≡◌, ◌∙◌, add-zero, ◌+◌, ◌*◌, length, arith}
use Rattle.std.proofs.lemmas.Grind.{common_steps}
use Rattle.format.specs.Bytes.{roads}
use Rattle.cartridge.proofs.Entries.{entry_at, number_there}
use Rattle.cartridge.proofs.fields.Fields.arrivals.Goals as goal

pub returns-clause-each : goal.returns-clause-each
returns-clause-each c = λ r l.
    let b = c.args.self.now.bytes.now in
    let p = c.from.ensures ∙ c.place_count.ensures in
    let q = c.from-roads.ensures ∙ c.road_count.ensures in
    let n : length c.as_chunks.result.0.now ≡ roads b = grind (arith, common_steps) in
    let f = c.as_chunks.ensures.front_len in
    let at = 17 + c.from.result + 8 * c.from-roads.result in
    let s = entry_at b 2 _ at (at + 2 * c.from-roads.result) r c.as_chunks.result.0.now c.as_chunks.ensures.front (omega (arith, f)) (omega (arith, f)) in
    rw (p, q) at (rw add-zero at (number_there b (at + 2 * r) 2 _ s 0 (omega arith)))
