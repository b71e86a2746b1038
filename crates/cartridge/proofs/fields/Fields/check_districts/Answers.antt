use Rattle.std.proofs.Common.{◌≡◌, ltb, not, true, false, ap, ◌∙◌, rules, tests}
use Rattle.std.specs.Option.{option_map}
use Rattle.std.proofs.lemmas.Iterator.{IsFirst-from_position, YieldsList-from_slice}
use Rattle.format.specs.declared.Refusal.TheVariants.{NoSuchDistrict}
use Rattle.format.specs.Bytes.{districts, places}
use Rattle.format.specs.Reading.{verdict, district_of}
use Rattle.cartridge.proofs.Finding.{position_first}
use Rattle.cartridge.proofs.fields.Fields.check_districts.Goals as goal

pub returns : goal.returns
returns c =
    let b = c.args.self.now.bytes.now in
    let m : c.map_or.result ≡ verdict (option_map (λ p. NoSuchDistrict (record { 0 = p })) c.position-unknown.result) tt = search rules in
    let f = IsFirst-from_position _ _ c.position-unknown.result (λ d. not (ltb d (districts b)) ≡ true) (λ d. not (ltb d (districts b)) ≡ false) c.position-unknown.ensures.ran
    (YieldsList-from_slice c.districts.result.now (cc)) (λ x q k. search (rules, tests)) (λ x q k. search (rules, tests)) in
    m ∙ ap (λ o. verdict (option_map (λ p. NoSuchDistrict (record { 0 = p })) o) tt)
    (position_first (λ d. not (ltb d (districts b))) (district_of b) c.districts.result.now (places b) c.districts.ensures.count c.districts.ensures.each c.position-unknown.result f)
