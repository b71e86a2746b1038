use Rattle.std.proofs.Common.{◌+◌, ◌<◌, refl, arith}
use Rattle.map.specs.Turned.{turned_round}
use Rattle.routes.specs.Labels.{start_at}
use Rattle.routes.specs.Search.{flip, ops_of, run}
use Rattle.halves.proofs.Steadying.{steady_still, steady_then}
use Rattle.search.proofs.Turnabout.{turning, to_turn, first_move, second_move, no_round, no_more, stops, final_other, left}
use Rattle.search.proofs.running.run.Goals as goal

pub loop-round-init : goal.loop-round-init
loop-round-init g c = (
  λ G s t x b.
      let o = g.M.Order in
      let k = g.M.Measure in
      let O = ops_of o.thing o.leq k.plus k.nil k.top in
      let m = g.G.Map.model c.args.map.now in
      let n = m.places in
      no_round o.thing o.leq O n m (turned_round m) refl G s t (run O (n + n) G s t x) x b.ready.shown b.ready.agree b.ready.others_agree b.ready.sized b.ready.others_sized
      b.no_turns refl,
  steady_still,
  steady_still,
)

pub loop-round-preserved : goal.loop-round-preserved
loop-round-preserved g c = (
  λ G s t x b.
      let o = g.M.Order in
      let k = g.M.Measure in
      let O = ops_of o.thing o.leq k.plus k.nil k.top in
      let m = g.G.Map.model c.args.map.now in
      let n = m.places in
      let i = c.loop-round._round in
      let y = run O (n + n) G s t x in
      let few : n < 2000 = omega (arith, (g.G.Map.sound c.args.map.now).few_places) in
      let inside : i < n = omega (arith, c.loop-round-test.true, b.ready.sized) in
      let r = to_turn o.thing o.leq O n m (turned_round m) refl G s t y i inside (c.loop-round.invariant.0 G s t x b) in
      let h = c.in-Some.ensures.taken b.laws (start_at (turned_round m)) G s t r.state b.along_guided (turning o.thing o.leq O r k.cost _ b.grounds.along b.grounds.along_level (omega (arith, few, inside))) in
      let r₁ = first_move o.thing o.leq O n m (turned_round m) refl G s t y i r c.turn.auto.labels h c.swapped-found.result c.swapped-found.ensures in
      let h₁ = c.in-Some-turn.ensures.taken b.laws (start_at m) (flip G) t s r₁.state b.against_guided (turning o.thing o.leq O r₁ k.cost _ b.grounds.against b.grounds.against_level (omega (arith, few, inside))) in
      second_move o.thing o.leq O n m (turned_round m) refl G s t y i r₁ c.turn-in-loop-round.auto.labels h₁ c.swapped-found-in-loop-round.result c.swapped-found-in-loop-round.ensures,
  steady_then c.loop-round.invariant.1 c.in-Some.ensures.steady,
  steady_then c.loop-round.invariant.2 c.in-Some-turn.ensures.steady,
)

pub returns-in_default : goal.returns-in_default
returns-in_default g c = record {
  left = λ G s t x b.
      let o = g.M.Order in
      let k = g.M.Measure in
      let O = ops_of o.thing o.leq k.plus k.nil k.top in
      let m = g.G.Map.model c.args.map.now in
      let n = m.places in
      let i = c.loop-round._round in
      let y = run O (n + n) G s t x in
      let few : n < 2000 = omega (arith, (g.G.Map.sound c.args.map.now).few_places) in
      let inside : i < n = omega (arith, c.loop-round-test.true, b.ready.sized) in
      let r = to_turn o.thing o.leq O n m (turned_round m) refl G s t y i inside (c.loop-round.invariant.0 G s t x b) in
      let h = c.in_default.ensures.taken b.laws (start_at (turned_round m)) G s t r.state b.along_guided (turning o.thing o.leq O r k.cost _ b.grounds.along b.grounds.along_level (omega (arith, few, inside))) in
      left o.thing o.leq O (stops o.thing o.leq O r h);
  near = steady_then c.loop-round.invariant.1 c.in_default.ensures.steady;
  far = c.loop-round.invariant.2;
}

pub returns-in_default-turn : goal.returns-in_default-turn
returns-in_default-turn g c = record {
  left = λ G s t x b.
      let o = g.M.Order in
      let k = g.M.Measure in
      let O = ops_of o.thing o.leq k.plus k.nil k.top in
      let m = g.G.Map.model c.args.map.now in
      let n = m.places in
      let i = c.loop-round._round in
      let y = run O (n + n) G s t x in
      let few : n < 2000 = omega (arith, (g.G.Map.sound c.args.map.now).few_places) in
      let inside : i < n = omega (arith, c.loop-round-test.true, b.ready.sized) in
      let r = to_turn o.thing o.leq O n m (turned_round m) refl G s t y i inside (c.loop-round.invariant.0 G s t x b) in
      let h = c.in-Some.ensures.taken b.laws (start_at (turned_round m)) G s t r.state b.along_guided (turning o.thing o.leq O r k.cost _ b.grounds.along b.grounds.along_level (omega (arith, few, inside))) in
      let r₁ = first_move o.thing o.leq O n m (turned_round m) refl G s t y i r c.turn.auto.labels h c.swapped-found.result c.swapped-found.ensures in
      let h₁ = c.in_default-turn.ensures.taken b.laws (start_at m) (flip G) t s r₁.state b.against_guided (turning o.thing o.leq O r₁ k.cost _ b.grounds.against b.grounds.against_level (omega (arith, few, inside))) in
      left o.thing o.leq O (final_other o.thing o.leq O (stops o.thing o.leq O r₁ h₁));
  near = steady_then c.loop-round.invariant.1 c.in-Some.ensures.steady;
  far = steady_then c.loop-round.invariant.2 c.in_default-turn.ensures.steady;
}

pub returns : goal.returns
returns g c = record {
  left = λ G s t x b.
      let o = g.M.Order in
      let k = g.M.Measure in
      let O = ops_of o.thing o.leq k.plus k.nil k.top in
      let m = g.G.Map.model c.args.map.now in
      let n = m.places in
      left o.thing o.leq O (no_more o.thing o.leq O n m (turned_round m) refl G s t (run O (n + n) G s t x) c.loop-round._round (omega (arith, c.loop-round-test.false, b.ready.sized)) (c.loop-round.invariant.0 G s t x b));
  near = c.loop-round.invariant.1;
  far = c.loop-round.invariant.2;
}
