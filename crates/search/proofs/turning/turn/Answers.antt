use Rattle.std.proofs.Common.{refl}
use Rattle.routes.specs.Labels.{start_at}
use Rattle.halves.proofs.Steadying.{steady_still, steady_then}
use Rattle.search.proofs.OneTurn.{turn_over, turn_idle, turn_next, turn_settled, from, taken}
use Rattle.search.proofs.turning.turn.Goals as goal

pub returns-then-is_over : goal.returns-then-is_over
returns-then-is_over g c = record {
  taken = λ laws back_of G s t x guides a.
      let o = g.M.Order in
      let k = g.M.Measure in
      turn_over o.thing o.leq g.met.M.Order.ordered k.plus k.nil k.top k.cost k.code laws _ _ back_of _ _ _ _ _ _ _ G x a
      (c.if-is_over.ensures laws (start_at (g.G.Map.model c.args.map.now)) back_of c.args.labels.now c.args.others.now a.agree a.others_agree);
  steady = steady_still;
}

pub returns : goal.returns
returns g c = record {
  taken = λ laws back_of G s t x guides a.
      let o = g.M.Order in
      let k = g.M.Measure in
      let settles = c.in_ok-u.ensures.labels a.agree in
      let over = c.if-is_over.ensures laws (start_at (g.G.Map.model c.args.map.now)) back_of c.args.labels.now c.args.others.now a.agree a.others_agree in
      record {
        place = taken o.thing o.leq g.met.M.Order.ordered k.plus k.nil k.top k.cost k.code laws _ _ back_of _ _ _ _ _ _ _ G x a _ _ _ settles;
        next_is = turn_next o.thing o.leq g.met.M.Order.ordered k.plus k.nil k.top k.cost k.code laws _ _ back_of _ _ _ _ _ _ _ G x a _ _ _ settles over;
        shown = c.advance.ensures.shown back_of G s t x
            (from o.thing o.leq g.met.M.Order.ordered k.plus k.nil k.top k.cost k.code laws _ _ back_of _ _ _ _ _ _ _ G x a _ _ _ settles)
            (turn_settled o.thing o.leq g.met.M.Order.ordered k.plus k.nil k.top k.cost k.code laws _ _ back_of _ _ _ _ _ _ _ G x a _ _ _ settles
            _ refl k.decoded c.args.guide.now s t guides c.is_gate-gate.result c.ahead-between.result c.is_gate-gate.ensures c.ahead-between.ensures);
        agree = c.advance.ensures.agree (c.in_ok-u.ensures.agree a.agree);
      };
  steady = steady_then c.in_ok-u.ensures.steady c.advance.ensures.steady;
}

pub returns-in_err-u : goal.returns-in_err-u
returns-in_err-u g c = record {
  taken = λ laws back_of G s t x guides a.
      let o = g.M.Order in
      let k = g.M.Measure in
      absurd (turn_idle o.thing o.leq g.met.M.Order.ordered k.plus k.nil k.top k.cost k.code laws _ _ back_of _ _ _ _ _ _ _ G x a _
      (c.if-is_over.ensures laws (start_at (g.G.Map.model c.args.map.now)) back_of c.args.labels.now c.args.others.now a.agree a.others_agree)
      (c.in_err-u.ensures.labels a.agree));
  steady = c.in_err-u.ensures.steady;
}
