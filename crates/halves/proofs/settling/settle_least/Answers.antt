use Rattle.std.proofs.Common.{length, sym, ap, ◌∙◌, subst, subst₂, length-set}
use Rattle.halves.specs.Labels.{spot}
use Rattle.routes.specs.Parts.{finished}
use Rattle.halves.specs.Agreement.{Agree}
use Rattle.halves.specs.Settling.{Settling}
use Rattle.halves.proofs.Settled.{settles, settled_agrees}
use Rattle.halves.proofs.settling.settle_least.Goals as goal

pub returns : goal.returns
returns g c =
    let o = g.C.Order in
    let f = g.F.Fringe in
    let labels = c.args.labels.now in
    let got = c.in_ok-place.ensures in
    let p = c.in_ok-place.place in
    let done = c.settle.ensures in
    record {
      sized = ap length done.labels ∙ length-set labels p.0 (finished (spot labels p.0));
      labels = λ a. subst₂ (λ x y. Settling o.thing o.leq labels x y) (sym done.labels) (sym done.answer)
          (settles o.thing o.leq a p c.in_ok-place.field-0-1 (got.taken a.in_order).answer);
      agree = λ a. let t = got.taken a.in_order in
          subst (λ x. Agree o.thing o.leq (f.well c.take.new.self) (f.meaning c.take.new.self) x) (sym done.labels)
          (settled_agrees o.thing o.leq a p c.in_ok-place.field-0-1 t.answer (got.well a.in_order) t.same_capacity t.rest);
      steady = λ w. record { in_order = got.well w; same_capacity = (got.taken w).same_capacity };
    }
