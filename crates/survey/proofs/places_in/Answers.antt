use Rattle.std.proofs.Common.{ℕ, Bool, ◌∙◌, arith, rules, tests}
use Rattle.std.proofs.lemmas.Iterator.{YieldsList-from_range}
use Rattle.std.proofs.lemmas.Iterator.Consumers.{YieldsList-from_filter, count_from_yields_List}
use Rattle.map.specs.Model.{is_in}
use Rattle.survey.proofs.Counting.{counted}
use Rattle.survey.proofs.places_in.Goals as goal

pub returns : goal.returns
returns g c =
    let m = g.M.Map.model c.args.map.now in
    let t : ℕ → Bool = is_in m c.args.district.0 in
    count_from_yields_List c.filter.result c.count.result c.count.ensures.ran
    (YieldsList-from_filter _ t (YieldsList-from_range 0 m.places m.places (cc) (omega arith)) c.filter.ensures.closure (λ x b q k. search (rules, tests)))
    ∙ counted t m.places
