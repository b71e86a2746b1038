use Rattle.std.proofs.Common.{◌<◌, ◌≤◌, sym, refl, ap, ◌∙◌, subst, arith}
use Rattle.map.specs.Turned.{turned_round}
use Rattle.routes.specs.Labels.{start_at}
use Rattle.routes.specs.Search.{ops_of, first, flip}
use Rattle.routes.specs.Asking.{given}
use Rattle.routes.proofs.Unspliced.{given_unspliced}
use Rattle.table.specs.Views.{stored}
use Rattle.turns.specs.Findings.{Shown}
use Rattle.halves.proofs.Steadying.{steady_on}
use Rattle.search.specs.Guides.{Guides}
use Rattle.search.proofs.Grounded.{fits_along, fits_against, guided_along, guided_against}
use Rattle.search.proofs.Departing.{first_shown, begun_row}
use Rattle.search.proofs.searching.search.Goals as goal

pub returns : goal.returns
returns g c = record {
  left = λ a.
      let o = g.M.Order in
      let k = g.M.Measure in
      let O = ops_of o.thing o.leq k.plus k.nil k.top in
      let m = g.G.Map.model c.args.asked.now.map.now in
      let base = g.B.Map.model c.args.asked.now.base.now in
      let lawful = g.G.Map.sound c.args.asked.now.map.now in
      let sound = g.B.Map.sound c.args.asked.now.base.now in
      let n = m.places in
      let s = c.args.asked.now.start.0 in
      let t = c.args.asked.now.goal.0 in
      let table = c.args.asked.now.table.now in
      let pairs = c.args.asked.now.pairs in
      let G = given k.nil k.cost m base (stored k.decoded table) c.args.asked.now.pairs in
      let ls : s < base.places = omega (arith, a.start_known, a.level) in
      let lt : t < base.places = omega (arith, a.goal_known, a.level) in
      let fore_room : lib.ListN.length c.args.fore.now ≤ (g.F.Fringe.meaning c.args.near.now).capacity = omega (arith, a.fore_sized, a.near_room) in
      let back_room : lib.ListN.length c.args.back.now ≤ (g.N.Fringe.meaning c.args.far.now).capacity = omega (arith, a.back_sized, a.far_room) in
      c.run.ensures.left G s t (first O n s t) (record {
        laws = c.zero-zero.ensures.laws;
        along_guided = subst (λ b. Guides k.nil k.decoded (g.B.Map.model b) c.along.result G s t) (sym c.along.ensures.base_is)
            (guided_along k.plus k.nil k.cost k.decoded m base lawful sound table pairs c.args.asked.now.base.now s t ls lt c.along.result c.along.ensures);
        against_guided = subst (λ b. Guides k.nil k.decoded (g.B.Map.model b) c.against.result (flip G) t s) (sym c.against.ensures.base_is)
            (guided_against k.plus k.nil k.cost k.decoded m base lawful sound table pairs c.args.asked.now.base.now s t ls lt c.against.result c.against.ensures);
        grounds = record {
          along = fits_along k.plus k.nil k.cost k.decoded m base lawful sound table c.args.asked.now.pairs;
          against = fits_against k.plus k.nil k.cost k.decoded m base lawful sound table c.args.asked.now.pairs;
          along_level = ap (λ b. (g.B.Map.model b).places) c.along.ensures.base_is ∙ a.level;
          against_level = ap (λ b. (g.B.Map.model b).places) c.against.ensures.base_is ∙ a.level;
        };
        ready = record {
          sized = c.begin.auto.labels ∙ a.fore_sized;
          others_sized = c.begin-2.auto.labels ∙ a.back_sized;
          shown = subst (λ z. Shown (start_at m) (start_at (turned_round m)) c.begin.new.labels c.begin-2.new.labels z (first O n s t)) (sym c.outset.ensures)
              (first_shown O n (start_at m) (start_at (turned_round m)) c.args.asked.now.start c.args.asked.now.goal c.begin.new.labels c.begin-2.new.labels
              (begun_row c.begin.new.labels _ n s c.zero-zero.result k.nil c.begin.ensures.labels a.fore_sized c.zero-zero.ensures.exact)
              (begun_row c.begin-2.new.labels _ n t c.zero-zero.result k.nil c.begin-2.ensures.labels a.back_sized c.zero-zero.ensures.exact));
          agree = c.begin.ensures.agree fore_room;
          others_agree = c.begin-2.ensures.agree back_room;
        };
        no_turns = refl;
      });
  halved = λ ls lt e.
      let o = g.M.Order in
      let k = g.M.Measure in
      given_unspliced o.thing o.leq g.met.M.Order.ordered k.plus k.nil k.top k.cost k.code c.zero-zero.ensures.laws
      (g.G.Map.model c.args.asked.now.map.now) (g.B.Map.model c.args.asked.now.base.now) (g.G.Map.sound c.args.asked.now.map.now) (stored k.decoded c.args.asked.now.table.now) c.args.asked.now.pairs
      c.args.asked.now.start.0 c.args.asked.now.goal.0 ls lt e;
  laws = c.zero-zero.ensures.laws;
  near = steady_on c.begin.ensures.steady c.run.ensures.near;
  far = steady_on c.begin-2.ensures.steady c.run.ensures.far;
}
