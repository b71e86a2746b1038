use Rattle.std.proofs.Common.{◌≡◌, length, replicate, sym, ap, ◌∙◌, subst, arith}
use Rattle.routes.specs.declared.labels.Label.TheVariants.{Blank}
use Rattle.preparing.specs.Rows.{RowPrepared}
use Rattle.halves.proofs.Steadying.{steady_on}
use Rattle.preparing.proofs.Whole.{row_prepared}
use Rattle.preparing.proofs.prepare_row.Goals as goal

pub returns : goal.returns
returns g c =
    let o = g.M.Order in
    let k = g.M.Measure in
    let same : length c.spread-taken.new.labels ≡ length c.args.labels.now = c.spread-taken.auto.labels ∙ c.begin.auto.labels in
    record {
      labels = c.wipe.ensures.labels ∙ ap (λ n. replicate n Blank) same;
      fringe = record { same_capacity = c.wipe.ensures.emptied.same_capacity ∙ (steady_on c.begin.ensures.steady c.spread-taken.ensures.steady).same_capacity; empty = c.wipe.ensures.emptied.empty };
      well = c.wipe.ensures.well;
      row = λ ready.
          subst (RowPrepared o.thing o.leq k.plus k.nil k.top k.cost k.decoded (g.G.Map.model c.args.map.now) c.args.district.0) (sym c.with_count.ensures)
          (row_prepared o.thing o.leq g.met.M.Order.ordered k.plus k.nil k.top k.cost k.code c.fill-row.ensures.laws k.decoded
          (g.G.Map.model c.args.map.now) (g.G.Map.sound c.args.map.now) c.args.district.0 ready
          c.begin.new.labels c.spread-taken.new.labels c.spread-taken.new.firsts (record { row = c.fill-row.result; taken = c.spread-taken.result })
          c.begin.ensures.labels
          (c.spread-taken.ensures.ran (c.begin.ensures.agree (omega (arith, ready.sized, ready.room))))
          c.fill-row.ensures.row);
    }
