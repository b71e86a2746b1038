use Rattle.std.proofs.Common.{◌<◌, length, Some, sym, refl, ap, ◌∙◌, arith}
use Rattle.routes.specs.Labels.{start_at}
use Rattle.tracing.proofs.Traced.{tracing_none, traced_stop, traced_full, traced_last, traced_on}
use Rattle.tracing.proofs.tracks.trace.Goals as goal

pub loop-i-init : goal.loop-i-init
loop-i-init g c = λ n short. tracing_none _ _ n _ _

pub returns-in-Start : goal.returns-in-Start
returns-in-Start g c =
    let l : c.loop-i.i < length c.loop-i.list = omega (arith, c.loop-i-test.true, c.loop-i.auto.list) in
    record {
      within = omega (arith, l, c.loop-i.auto.list);
      listed = λ n short.
          traced_last (start_at (g.G.Map.model c.args.map.now)) c.args.labels.now n c.args.from.0 short (c.loop-i.invariant n short) l c.loop-i.at refl
          (sym (c.in-Some.is ∙ ap Some c.in-Start.is) ∙ c.origin_at.ensures);
    }

pub returns-in_default : goal.returns-in_default
returns-in_default g c =
    let l : c.loop-i.i < length c.loop-i.list = omega (arith, c.loop-i-test.true, c.loop-i.auto.list) in
    record {
      within = omega (arith, l, c.loop-i.auto.list);
      listed = λ n short.
          traced_stop (start_at (g.G.Map.model c.args.map.now)) c.args.labels.now n c.args.from.0 short (c.loop-i.invariant n short)
          c.in_default.ensures;
    }

pub loop-i-preserved : goal.loop-i-preserved
loop-i-preserved g c = λ n short.
    traced_on (start_at (g.G.Map.model c.args.map.now)) c.args.labels.now n c.args.from.0 short (c.loop-i.invariant n short)
    (omega (arith, c.loop-i-test.true, c.loop-i.auto.list)) c.loop-i.at refl c.in-Road.road
    (sym (c.in-Some.is ∙ ap Some c.in-Road.is) ∙ c.origin_at.ensures) c.start_of-at.result.0 c.start_of-at.ensures

pub returns : goal.returns
returns g c = record {
  within = omega (arith, c.loop-i.auto.list);
  listed = λ n short.
      traced_full (start_at (g.G.Map.model c.args.map.now)) c.args.labels.now n c.args.from.0 short (c.loop-i.invariant n short)
      (length c.loop-i.list) refl (omega (arith, c.loop-i-test.false, c.loop-i.auto.list));
}
