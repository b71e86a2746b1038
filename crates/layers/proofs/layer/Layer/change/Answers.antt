use Rattle.std.proofs.Common.{◌≡◌, None, Some, Ok, sym, ap, ◌∙◌, subst, length, is_some, MatchResult}
use Rattle.entries.specs.Answers.{put_answer, remove_answer}
use Rattle.entries.specs.Entries.{entry_for, Lost}
use Rattle.layers.proofs.Steps.{called_for}
use Rattle.layers.proofs.layer.Layer.change.Goals as goal

pub returns-in-Some : goal.returns-in-Some
returns-in-Some g c =
    let self = c.args.self.now in
    let road = g.E.Entry.road in
    let is : g.E.Kind.rules.entry_of c.args.call ≡ Ok (Some c.in-Some.entry) = sym c.entry.ensures ∙ c.in_ok-entry.was ∙ ap Ok c.in-Some.is in
    let own = g.met.E.Kind.laws.own_road c.args.call c.in-Some.entry is in
    called_for road g.E.Entry.again g.E.Kind.rules g.met.E.Kind.laws (g.G.Map.model self.below) (g.G.Map.sound self.below) c.args.call c.requires self c.put.new.self _
    (Ok (Some c.in-Some.entry)) is c.put.result
    (c.put.ensures.answer ∙ ap (λ r. put_answer g.E.Entry.again (is_some (entry_for road self.roads.entries.used r)) (length self.roads.entries.used)) own) c.put.ensures.after

pub returns-in-None : goal.returns-in-None
returns-in-None g c =
    let self = c.args.self.now in
    let road = g.E.Entry.road in
    let is : g.E.Kind.rules.entry_of c.args.call ≡ Ok None = sym c.entry.ensures ∙ c.in_ok-entry.was ∙ ap Ok c.in-None.is in
    let named = c.road_named.ensures in
    called_for road g.E.Entry.again g.E.Kind.rules g.met.E.Kind.laws (g.G.Map.model self.below) (g.G.Map.sound self.below) c.args.call c.requires self c.remove.new.self _
    (Ok None) is c.remove.result
    (c.remove.ensures.answer ∙ ap (λ r. remove_answer (is_some (entry_for road self.roads.entries.used r))) named)
    (subst (λ r. MatchResult c.remove.result (λ _. Lost road self.roads.entries.used c.remove.new.self.used r) (λ _. c.remove.new.self ≡ self.roads.entries)) named c.remove.ensures.after)
