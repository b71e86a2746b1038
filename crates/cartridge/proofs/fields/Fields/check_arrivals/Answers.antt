use Rattle.std.proofs.Common.{◌≡◌, nat_lt, ap, ◌∙◌, rules, arith}
use Rattle.std.proofs.lemmas.List.{get_or_default}
use Rattle.std.specs.Option.{option_map}
use Rattle.format.specs.declared.Refusal.TheVariants.{WrongArrival}
use Rattle.format.specs.Bytes.{number, roads}
use Rattle.format.specs.Reading.{verdict, road_of}
use Rattle.cartridge.specs.Orders.{key_if, by_end}
use Rattle.cartridge.proofs.Rises.{first_wrong, arrivals_keyed, arrival_keyed, arrival_key_of}
use Rattle.cartridge.proofs.fields.Fields.check_arrivals.Goals as goal

pub returns : goal.returns
returns c =
    let b = c.args.self.now.bytes.now in
    let n = c.arrivals.ensures.count in
    let m : c.map_or.result ≡ verdict (option_map WrongArrival c.first_fall-fall.result) tt = search rules in
    let f = c.first_fall-fall.ensures.falls (arrival_key_of b) (λ i d k l q.
    let e : k ≡ key_if (nat_lt (number q.shown.now 0) (roads b)) (by_end (road_of b (number q.shown.now 0))) = search rules in
    arrival_keyed b i _ k (ap (λ l. number l 0) (q.shows ∙ get_or_default _ i d _ l) ∙ c.arrivals.ensures.each i (omega arith)) e) in
    m ∙ ap (λ o. verdict (option_map WrongArrival o) tt) (first_wrong (arrivals_keyed b) _ (rw n at f))
