use Rattle.std.proofs.Common.{◌≡◌, suc, ◌-◌, length, sym, ap, ◌∙◌, arith}
use Rattle.routes.specs.Labels.{start_at, labels_view}
use Rattle.routes.specs.Sweeps.{root}
use Rattle.preparing.proofs.Roots.{goes_back, begins_here}
use Rattle.preparing.proofs.rooting.root_of.Goals as goal

pub loop-init : goal.loop-init
loop-init g c = λ k e.
    let same : k ≡ suc (length c.args.labels.now) = omega arith in
    ap (λ z. root z (labels_view (start_at (g.G.Map.model c.args.map.now)) c.args.labels.now) c.args.place.0) same

pub returns-in_default : goal.returns-in_default
returns-in_default g c =
    let k = length c.args.labels.now - c.loop.counter in
    sym (begins_here (start_at (g.G.Map.model c.args.map.now)) c.args.labels.now c.label_at.result k c.loop.at.0 c.label_at.ensures c.in_default.ensures)
    ∙ c.loop.invariant (suc k) (omega arith)

pub loop-preserved : goal.loop-preserved
loop-preserved g c = λ k e.
    sym (goes_back (start_at (g.G.Map.model c.args.map.now)) c.args.labels.now c.label_at.result k c.loop.at.0 c.label_at.ensures c.in-Some.u.0 c.in-Some.ensures)
    ∙ c.loop.invariant (suc k) (omega arith)

pub returns-in-Some : goal.returns-in-Some
returns-in-Some g c =
    sym (goes_back (start_at (g.G.Map.model c.args.map.now)) c.args.labels.now c.label_at.result 0 c.loop.at.0 c.label_at.ensures c.in-Some.u.0 c.in-Some.ensures)
    ∙ c.loop.invariant 1 (omega arith)
