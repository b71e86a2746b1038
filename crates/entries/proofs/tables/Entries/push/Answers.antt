use Rattle.std.proofs.Common.{◌+◌, sym, subst, arith}
use Rattle.entries.specs.Entries.{kept, Tidy, Limited, Put}
use Rattle.entries.proofs.Changes.{InUse, many, limited, tidy_pushed, put_pushed}
use Rattle.entries.proofs.tables.Entries.push.Goals as goal

pub invariant_of-self : goal.invariant_of-self
invariant_of-self g c =
    let u : InUse g.E.Entry.road (g.A.Places.items c.self.inside.places) c.self.inside.len c.args.self.now = record { tidy = c.self.invariant; view = c.self.view_is } in
    let n = many u in
    subst (Tidy g.E.Entry.road (c.self.inside.len + 1)) (sym c.place.ensures) (tidy_pushed u c.args.entry c.requires.fresh (omega arith))

pub returns : goal.returns
returns g c =
    let u : InUse g.E.Entry.road (g.A.Places.items c.self.inside.places) c.self.inside.len c.args.self.now = record { tidy = c.self.invariant; view = c.self.view_is } in
    let n = many u in
    record {
      put = subst (λ xs. Put g.E.Entry.road c.args.self.now.used (kept (c.self.inside.len + 1) xs).used c.args.entry) (sym c.place.ensures)
          (put_pushed u c.args.entry c.requires.fresh (omega arith));
      limits = subst (λ xs. Limited g.E.Entry.road (kept (c.self.inside.len + 1) xs)) (sym c.place.ensures)
          (limited g.E.Entry.road _ _ (tidy_pushed u c.args.entry c.requires.fresh (omega arith)));
    }
