use Rattle.std.proofs.Common.{◌≡◌, not, true, false, ap, ◌∙◌, rules, tests}
use Rattle.std.specs.Option.{option_map}
use Rattle.std.proofs.lemmas.Iterator.{first_from_Range}
use Rattle.format.specs.declared.Refusal.TheVariants.{EmptyDistrict}
use Rattle.format.specs.Bytes.{districts}
use Rattle.format.specs.Reading.{verdict, has_place}
use Rattle.cartridge.proofs.Finding.{range_first}
use Rattle.cartridge.proofs.fields.Fields.check_inhabited.Goals as goal

pub returns : goal.returns
returns c =
    let b = c.args.self.now.bytes.now in
    let m : c.map_or.result ≡ verdict (option_map (λ d. EmptyDistrict (record { 0 = d })) c.find-empty.result) tt = search rules in
    let f = first_from_Range _ _ _ c.find-empty.result (λ d. not (has_place b d) ≡ true) (λ d. not (has_place b d) ≡ false) c.find-empty.ensures.ran (λ x q k. search (rules, tests)) (λ x q k. search (rules, tests)) in
    m ∙ ap (λ o. verdict (option_map (λ d. EmptyDistrict (record { 0 = d })) o) tt) (range_first (λ d. not (has_place b d)) (districts b) c.find-empty.result (rw c.district_count.ensures at f))
