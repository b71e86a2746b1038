use Rattle.std.proofs.Common.{◌≡◌, ◌∙◌, ◌+◌, ◌*◌, length, arith}
use Rattle.std.proofs.lemmas.Grind.{common_steps}
use Rattle.format.specs.Bytes.{roads}
use Rattle.cartridge.proofs.Entries.{entry_at, road_there}
use Rattle.cartridge.proofs.fields.Fields.roads.Goals as goal

pub returns-clause-each : goal.returns-clause-each
returns-clause-each c = λ r l.
    let b = c.args.self.now.bytes.now in
    let p = c.from-at.ensures ∙ c.place_count.ensures in
    let m = c.from-roads.ensures ∙ c.road_count.ensures in
    let n : length c.as_chunks.result.0.now ≡ roads b = grind (arith, common_steps) in
    let f = c.as_chunks.ensures.front_len in
    let s = entry_at b 8 _ (14 + c.from-at.result) (14 + c.from-at.result + 8 * c.from-roads.result) r c.as_chunks.result.0.now c.as_chunks.ensures.front (omega (arith, f)) (omega (arith, f)) in
    road_there b r _ (rw p at s)
