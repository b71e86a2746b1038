use Rattle.halves.proofs.Steadying.{steady_still}
use Rattle.turns.proofs.Advanced.{advanced_pruned, advanced_expanded}
use Rattle.turns.proofs.advancing.advance.Goals as goal

pub returns-then-is_too_dear : goal.returns-then-is_too_dear
returns-then-is_too_dear g c =
    let o = g.M.Order in
    let k = g.M.Measure in
    record {
      shown = λ back_of G s t x from a.
          advanced_pruned o.thing o.leq g.met.M.Order.ordered k.plus k.nil k.top k.cost k.code c.add-paid.ensures.laws
          (g.G.Map.model c.args.map.now) (g.G.Map.sound c.args.map.now)
          back_of c.args.labels.now c.args.others.now c.args.found c.args.u.0 c.args.cost c.args.gate c.args.between G s t x from a
          c.gate_after-own_gate.result c.gate_after-own_gate.ensures c.add-paid.result c.add-paid.ensures.exact
          c.upper_after-upper.result (c.upper_after-upper.ensures back_of) c.label_at.result c.label_at.ensures (c.if-is_too_dear.ensures back_of)
          c.pruned.result c.pruned.ensures;
      agree = λ a. a;
      steady = steady_still;
    }

pub returns : goal.returns
returns g c =
    let o = g.M.Order in
    let k = g.M.Measure in
    record {
      shown = λ back_of G s t x from a.
          advanced_expanded o.thing o.leq g.met.M.Order.ordered k.plus k.nil k.top k.cost k.code c.add-paid.ensures.laws
          (g.G.Map.model c.args.map.now) (g.G.Map.sound c.args.map.now)
          back_of c.args.labels.now c.args.others.now c.args.found c.args.u.0 c.args.cost c.args.gate c.args.between G s t x from a
          c.gate_after-own_gate.result c.gate_after-own_gate.ensures c.add-paid.result c.add-paid.ensures.exact
          c.upper_after-upper.result (c.upper_after-upper.ensures back_of) c.label_at.result c.label_at.ensures (c.if-is_too_dear.ensures back_of)
          c.expand.new.labels c.expand.ensures.labels c.best_meeting-met.result c.best_meeting-met.ensures
          c.expanded.result c.expanded.ensures;
      agree = c.expand.ensures.agree;
      steady = c.expand.ensures.steady;
    }
