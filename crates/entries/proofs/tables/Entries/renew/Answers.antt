use Rattle.std.proofs.Common.{◌≡◌, set, arith, MatchResult}
use Rattle.entries.proofs.Changes.{InUse, many, limited, stood, tidy_renewed, put_renewed}
use Rattle.entries.proofs.tables.Entries.renew.Goals as goal
use Rattle.entries.proofs.tables.Entries.renew.Goals.{After-checked_renew}

in_use : (g : _) (c : After-checked_renew g) → InUse g.E.Entry.road (g.A.Places.items c.self.inside.places) c.self.inside.len c.args.self.now
in_use g c = record { tidy = c.self.invariant; view = c.self.view_is }

-- the entry in the place, which is one of those in use, is renewed or stays
after : (g : _) (c : After-checked_renew g) → MatchResult c.checked_renew.result (λ _. g.A.Places.items c.checked_renew.new.self ≡ set (g.A.Places.items c.self.inside.places) c.args.i c.args.entry)
    (λ _. g.A.Places.items c.checked_renew.new.self ≡ g.A.Places.items c.self.inside.places)
after g c =
    let u = in_use g c in
    let n = many u in
    let own = c.requires in
    c.checked_renew.ensures.after c.args.entry (omega (arith, own.0, u.tidy.few, u.tidy.wide)) (stood u c.args.i c.args.entry own.0 own.1 c.args.entry)

pub invariant_of-self : goal.invariant_of-self
invariant_of-self g c =
    let own = c.requires in
    tidy_renewed (in_use g c) c.args.i c.args.entry own.0 own.1 c.checked_renew.result (g.A.Places.items c.checked_renew.new.self) (after g c)

pub returns-clause-after : goal.returns-clause-after
returns-clause-after g c =
    let own = c.requires in
    put_renewed (in_use g c) c.args.i c.args.entry own.0 own.1 c.checked_renew.result (g.A.Places.items c.checked_renew.new.self) (after g c)

pub returns-clause-limits : goal.returns-clause-limits
returns-clause-limits g c = limited g.E.Entry.road _ _ (invariant_of-self g c)
