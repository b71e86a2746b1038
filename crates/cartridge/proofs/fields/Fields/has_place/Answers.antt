use Rattle.std.proofs.Common.{◌∙◌, ap, eqb, zero-add}
use Rattle.format.specs.Bytes.{places}
use Rattle.format.specs.Reading.{district_of}
use Rattle.cartridge.proofs.Finding.{any_first}
use Rattle.cartridge.proofs.fields.Fields.has_place.Goals as goal

pub returns : goal.returns
returns c =
    let b = c.args.self.now.bytes.now in
    let d = c.args.district in
    c.contains.ensures.value ∙ any_first (λ x. eqb x d) (λ p. eqb (district_of b p) d) c.districts.result.now 0 (places b) c.districts.ensures.count (λ p l. rw zero-add (ap (λ x. eqb x d) (c.districts.ensures.each p l)))
