use Rattle.std.proofs.Common.{◌≡◌, ℕ, ◌<◌, List, [], Option, Some, length, slice_index_or, ap, ◌∙◌, arith, rules}
use Rattle.std.proofs.lemmas.List.{get_or_default}
use Rattle.std.specs.Option.{option_map}
use Rattle.map.specs.declared.numbers.RoadId.{RoadId}
use Rattle.format.specs.Bytes.{roads}
use Rattle.format.specs.Reading.{road_of}
use Rattle.format.proofs.Accepted.{accepted_facts}
use Rattle.cartridge.specs.Records.{road_in}
use Rattle.cartridge.proofs.Listed.{starts_climb, departs}
use Rattle.cartridge.proofs.cartridges.Cartridge.nth_departure.Goals as goal

pub returns : goal.returns
returns c =
    let s = c.args.self.now in
    let b = s.bytes.now in
    let f = accepted_facts b s.accepted in
    let xs = c.roads-roads.result.now in
    let k : List ℕ → Option ℕ = λ l. Some (road_in l).start.0 in
    let n : length xs ≡ roads b = rw c.fields.ensures at c.roads-roads.ensures.count in
    let each : (r : ℕ) → r < roads b → road_in (slice_index_or xs r []) ≡ road_of b r = rw c.fields.ensures at c.roads-roads.ensures.each in
    let h = c.nth_at.ensures.nth k (λ r. (road_of b r).start.0)
    (λ x p q. let e : p ≡ Some (road_in q.shown.now).start.0 = search rules in e ∙ ap k q.shows)
    (λ i d l. ap k (get_or_default xs i d [] l) ∙ ap (λ x. Some x.start.0) (each i (omega arith)))
    (λ i j l u. starts_climb b f i j l (omega arith)) in
    let m : c.map.result ≡ option_map (λ r. let x : RoadId = record { 0 = r } in x) c.nth_at.result = search rules in
    m ∙ departs b f c.args.place.0 c.args.j c.nth_at.result (rw n at h)
