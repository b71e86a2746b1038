use Rattle.std.proofs.Common.{◌≡◌, ap, ◌∙◌, rules, arith}
use Rattle.std.proofs.lemmas.List.{get_or_default}
use Rattle.std.specs.Option.{option_map}
use Rattle.format.specs.declared.Refusal.TheVariants.{WrongRoad}
use Rattle.format.specs.Reading.{verdict, within_limits}
use Rattle.cartridge.specs.Records.{road_in}
use Rattle.cartridge.specs.Orders.{key_if, by_start}
use Rattle.cartridge.proofs.Rises.{first_wrong, roads_keyed, road_keyed, road_key_of}
use Rattle.cartridge.proofs.fields.Fields.check_roads.Goals as goal

pub returns : goal.returns
returns c =
    let b = c.args.self.now.bytes.now in
    let n = c.roads.ensures.count in
    let m : c.map_or.result ≡ verdict (option_map (λ r. WrongRoad (record { 0 = r })) c.first_fall-fall.result) tt = search rules in
    let f = c.first_fall-fall.ensures.falls (road_key_of b) (λ i d k l q.
    let e : k ≡ key_if (within_limits c.place_count-places.result (road_in q.shown.now)) (by_start (road_in q.shown.now)) = search rules in
    road_keyed b i _ _ k c.place_count-places.ensures (ap road_in (q.shows ∙ get_or_default _ i d _ l) ∙ c.roads.ensures.each i (omega arith)) e) in
    m ∙ ap (λ o. verdict (option_map (λ r. WrongRoad (record { 0 = r })) o) tt) (first_wrong (roads_keyed b) _ (rw n at f))
