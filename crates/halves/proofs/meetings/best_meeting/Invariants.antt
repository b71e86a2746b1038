use Rattle.std.proofs.Common.{◌≡◌, None}
use Rattle.map.specs.Model.{leaving}
use Rattle.halves.specs.Meetings.{best_along}
use Rattle.halves.proofs.meetings.best_meeting.Given as goal

-- the best along the roads still to come is the best along all
abbrev pub invariant-loop-number : goal.invariant-loop-number
invariant-loop-number g l =
    let o = g.M.Order in
    let m = g.G.Map.model l.map in
    best_along o.thing o.leq g.M.Measure.plus l.own l.other m l.number-iterator l.best
    ≡ best_along o.thing o.leq g.M.Measure.plus l.own l.other m (leaving m l.fn.u.0) None
