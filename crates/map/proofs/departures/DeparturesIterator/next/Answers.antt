use Rattle.std.proofs.Common.{rules, sym, ◌∙◌}
use Rattle.map.proofs.Leaving.{listed_within, few_leave}
use Rattle.map.proofs.departures.DeparturesIterator.next.Goals as goal

pub overflow_add-self : goal.overflow_add-self
overflow_add-self g c =
    let m = g.G.Map.model c.self.inside.map.now in
    let there = listed_within m c.self.inside.place.0 c.self.inside.next c.in_ok-number.number (sym c.departure.ensures ∙ c.in_ok-number.was) in
    let few = few_leave m c.self.inside.place.0 (g.G.Map.sound c.self.inside.map.now) in
    search rules
