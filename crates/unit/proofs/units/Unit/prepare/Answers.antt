use Rattle.std.proofs.Common.{◌-◌, length, sym, ap, ◌∙◌}
use borrow.Rule.Slice.PartMut.{mid_of}
use Rattle.unit.specs.Refusing.{prepare_refusal, verdict}
use Rattle.unit.proofs.Prepares.{goes_on, allowed, cut_length, prepare_fills, prepare_history}
use Rattle.unit.proofs.units.Unit.prepare.Goals as goal

pub returns : goal.returns
returns g c =
    let o = g.M.Order in
    let k = g.M.Measure in
    let base = g.G.Map.model c.args.self.now.map.below.below in
    let sound = g.G.Map.sound c.args.self.now.map.below.below in
    let none = goes_on (prepare_refusal base c.args.district.0 (length c.args.first.now) (length c.args.second.now) (g.F.Fringe.meaning c.args.fringe.now).capacity)
    c.in_ok-may_prepare.field-0 (sym c.in_ok-may_prepare.was ∙ c.may_prepare.ensures ∙ ap (λ z. verdict (prepare_refusal base c.args.district.0 (length c.args.first.now) (length c.args.second.now) z)) c.capacity.ensures) in
    let ok = allowed base c.args.district.0 (length c.args.first.now) (length c.args.second.now) (g.F.Fringe.meaning c.args.fringe.now).capacity none in
    let good = c.prepare_row-prepared.ensures.row (record {
      known = ok.known;
      sized = ap (λ z. length (mid_of 0 (z - 0) c.args.first.now)) c.places-n.ensures ∙ cut_length base.places c.args.first.now ok.first_room;
      room = ok.fringe_room;
    }) in
    record {
      done = prepare_fills o.thing o.leq k.plus k.nil k.top k.cost k.decoded base sound c.args.district c.args.self.now c.args.first.now c.args.second.now
          (g.F.Fringe.meaning c.args.fringe.now).capacity ok c.fill.new.self c.prepare_row-prepared.result c.fill.ensures good
          c.places-n.result c.places-n.ensures c.prepare_row-prepared.new.labels c.blank.new.labels c.prepare_row-prepared.ensures.labels c.blank.ensures
          g.F.Fringe.well g.F.Fringe.meaning c.args.fringe.now c.prepare_row-prepared.new.fringe c.prepare_row-prepared.ensures.fringe c.prepare_row-prepared.ensures.well
          (prepare_refusal base c.args.district.0 (length c.args.first.now) (length c.args.second.now) (g.F.Fringe.meaning c.args.fringe.now).capacity) none;
      history = prepare_history o.thing o.leq k.plus k.nil k.top k.cost k.decoded base sound c.args.district c.args.self.now c.args.first.now c.args.second.now
          (g.F.Fringe.meaning c.args.fringe.now).capacity ok c.fill.new.self c.prepare_row-prepared.result c.fill.ensures good;
    }
