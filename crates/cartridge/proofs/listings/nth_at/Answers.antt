use Rattle.std.proofs.Common.{◌≡◌, ◌+◌, ◌<◌, get_or, length, ◌∙◌, ap, refl, arith}
use Rattle.std.proofs.lemmas.Grind.{common_steps}
use Rattle.cartridge.proofs.Halving.{asked}
use Rattle.cartridge.proofs.listings.nth_at.Goals as goal

pub returns-clause-nth : goal.returns-clause-nth
returns-clause-nth g c = λ k key computes keyed climbs.
    let first = c.first_at-first.result in
    let xs = c.args.entries.now in
    let x = c.in_ok-entry.entry.now in
    let l : first + c.args.j < length xs = grind (arith, common_steps) in
    let i : x ≡ get_or xs (first + c.args.j) x = grind (arith, common_steps) in
    let e = computes x c.place_of.result (record { shown = _; shows = refl; says = record { met = c.place_of.ensures } }) in (
      first,
      c.first_at-first.ensures.begins k key computes keyed climbs,
      asked key (length xs) c.args.place (first + c.args.j) c.place_of.result c.then_some.result c.eq.result l
          (e ∙ ap k i ∙ keyed (first + c.args.j) x l) c.eq.ensures c.then_some.ensures,
    )
