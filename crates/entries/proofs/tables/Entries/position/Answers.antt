use Rattle.std.proofs.Common.{◌≡◌, eqb, position, ap, ◌∙◌}
use Rattle.entries.proofs.Changes.{found, own}
use Rattle.entries.proofs.tables.Entries.position.Goals as goal

pub returns : goal.returns
returns g c =
    let at : c.first_for.result ≡ position (λ x. eqb (g.E.Entry.road x) c.args.road.0) c.args.self.now.used =
    c.first_for.ensures ∙ ap (position (λ x. eqb (g.E.Entry.road x) c.args.road.0)) c.used.ensures.entries in record {
      found = found g.E.Entry.road c.args.self.now.used c.args.road.0 c.first_for.result at;
      own = own g.E.Entry.road c.args.self.now.used c.args.road.0 c.first_for.result at;
      limits = c.used.ensures.limits;
    }
