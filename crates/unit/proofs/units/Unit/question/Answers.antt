use Rattle.std.proofs.Common.{length, sym, refl, ◌∙◌, subst, ap₂}
use Rattle.routes.specs.Asking.{given}
use Rattle.routes.specs.Search.{ops_of, answer}
use Rattle.table.specs.Views.{stored}
use Rattle.asking.specs.Answers.{Answers}
use Rattle.unit.specs.Refusing.{question_refusal, verdict}
use Rattle.unit.specs.Questions.{by_the_rules, map_now}
use Rattle.unit.proofs.Prepares.{goes_on}
use Rattle.unit.proofs.Asks.{may_ask, may_search, least_cost, question_answered}
use Rattle.unit.proofs.units.Unit.question.Goals as goal

pub returns : goal.returns
returns g c =
    let o = g.M.Order in
    let k = g.M.Measure in
    let u = c.args.self.now in
    let base = g.G.Map.model u.map.below.below in
    let s = c.args.start.0 in
    let t = c.args.goal.0 in
    let fore = c.args.fore.now in
    let back = c.args.back.now in
    let near = (g.F.Fringe.meaning c.args.near.now).capacity in
    let far = (g.N.Fringe.meaning c.args.far.now).capacity in
    let rules = by_the_rules o.thing o.leq k.plus k.nil k.top k.cost k.decoded base u s t in
    let refusal = question_refusal base s t (length fore) (length back) near far (length c.args.list.now) in
    let none = goes_on refusal c.in_ok-may_ask.field-0
    (sym c.in_ok-may_ask.was ∙ c.may_ask.ensures
    ∙ ap₂ (λ a b. verdict (question_refusal base s t (length fore) (length back) a b (length c.args.list.now))) c.capacity.ensures c.capacity-2.ensures) in
    let ok = may_ask base s t (length fore) (length back) near far (length c.args.list.now) none in
    let asked = may_search base (map_now base u) refl s t fore back near far (length c.args.list.now) ok c.places-n.result c.places-n.ensures in
    let answers = subst (λ b. Answers (answer (ops_of o.thing o.leq k.plus k.nil k.top) (given k.nil k.cost (map_now base u) base (stored k.decoded u.table) b) s t)
    c.args.list.now c.ask.new.list c.ask.result) c.is_untouched.ensures (c.ask.ensures.answer asked ok.list_room) in
    record {
      rules = question_answered base rules c.places-n.result c.places-n.ensures fore back ok.fore_room ok.back_room c.ask.new.fore c.ask.new.back c.ask.ensures.fore c.ask.ensures.back
          g.F.Fringe.well g.F.Fringe.meaning g.N.Fringe.well g.N.Fringe.meaning c.args.near.now c.ask.new.near c.args.far.now c.ask.new.far
          c.ask.ensures.near c.ask.ensures.near_well c.ask.ensures.far c.ask.ensures.far_well c.args.list.now c.ask.new.list c.ask.result answers refusal none;
      least = λ h left.
          least_cost o.thing o.leq g.met.M.Order.ordered k.plus k.nil k.top k.cost k.code c.ask.ensures.laws k.decoded base (g.G.Map.sound u.map.below.below) u s t
          ok.start_known ok.goal_known h left c.args.list.now c.ask.new.list c.ask.result answers;
    }
