use Rattle.std.proofs.Common.{◌≡◌, ◌-◌, get_or, set, sym, ap, ◌∙◌, subst, arith}
use Rattle.entries.specs.Entries.{kept, Tidy, Lost}
use Rattle.entries.proofs.Changes.{InUse, many, limited, tidy_freed, lost_freed}
use Rattle.entries.proofs.tables.Entries.free.Goals as goal
use Rattle.entries.proofs.tables.Entries.free.Goals.{After-place}

-- the last entry in use is moved
moved : (g : _) (c : After-place g) →
    g.A.Places.items c.place.new.self ≡ set (g.A.Places.items c.self.inside.places) c.args.i (get_or (g.A.Places.items c.self.inside.places) (c.self.inside.len - 1) c.index-as_slice-self.result)
moved g c =
    let d = c.index-as_slice-self.result in
    c.place.ensures ∙ ap (set (g.A.Places.items c.self.inside.places) c.args.i) (c.index-as_slice-self.is ∙ ap (λ l. get_or l (c.self.inside.len - 1) d) c.as_slice.ensures)

in_use : (g : _) (c : After-place g) → InUse g.E.Entry.road (g.A.Places.items c.self.inside.places) c.self.inside.len c.args.self.now
in_use g c = record { tidy = c.self.invariant; view = c.self.view_is }

pub invariant_of-self : goal.invariant_of-self
invariant_of-self g c =
    let u = in_use g c in
    let n = many u in
    subst (Tidy g.E.Entry.road (c.self.inside.len - 1)) (sym (moved g c))
    (tidy_freed u (c.self.inside.len - 1) c.args.i c.index-as_slice-self.result (omega arith) c.requires)

pub returns-clause-lost : goal.returns-clause-lost
returns-clause-lost g c = λ r f.
    let u = in_use g c in
    let n = many u in
    subst (λ xs. Lost g.E.Entry.road c.args.self.now.used (kept (c.self.inside.len - 1) xs).used r) (sym (moved g c))
    (lost_freed u (c.self.inside.len - 1) c.args.i c.index-as_slice-self.result (omega arith) f.0 r f.1)

pub returns-clause-limits : goal.returns-clause-limits
returns-clause-limits g c = limited g.E.Entry.road _ _ (invariant_of-self g c)
