use Rattle.std.proofs.Common.{◌≡◌, ◌≤◌, length, drop}
use Rattle.fringe.specs.Drains.{Drawn}
use Rattle.fringe.proofs.drains.drain.Given as goal

abbrev pub invariant-loop-i : goal.invariant-loop-i
invariant-loop-i g l =
    (l.i ≤ length l.out)
    × (drop l.i l.out ≡ drop l.i l.initial.out)
    × (g.F.Fringe.well l.initial.fringe → g.F.Fringe.well l.fringe)
    × (g.F.Fringe.well l.initial.fringe → Drawn g.C.Order.thing g.C.Order.leq (g.F.Fringe.meaning l.initial.fringe) (g.F.Fringe.meaning l.fringe) l.i l.out)
