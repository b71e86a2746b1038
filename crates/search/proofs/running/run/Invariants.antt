use Rattle.std.proofs.Common.{ℕ, ◌+◌, ◌-◌}
use Rattle.map.specs.Turned.{turned_round}
use Rattle.routes.specs.Search.{Given, Both, ops_of, run}
use Rattle.halves.specs.Agreement.{Steady}
use Rattle.search.specs.Rounds.{Begun}
use Rattle.search.proofs.Turnabout.{Rest}
use Rattle.search.proofs.running.run.Given as goal

abbrev pub invariant-loop-round : goal.invariant-loop-round
invariant-loop-round g l =
    let o = g.M.Order in
    let k = g.M.Measure in
    let O = ops_of o.thing o.leq k.plus k.nil k.top in
    let m = g.G.Map.model l.map in
    let n = m.places in
    ((G : Given g.row.M.Denot) (s t : ℕ) (x : Both g.row.M.Denot) →
    Begun o.thing o.leq k.plus k.nil k.top k.cost k.code k.decoded m (g.B.Map.model l.along.base.now) (g.B.Map.model l.against.base.now)
    l.along l.against (g.F.Fringe.well l.initial.near) (g.F.Fringe.meaning l.initial.near) (g.N.Fringe.well l.initial.far) (g.N.Fringe.meaning l.initial.far)
    l.initial.fore l.initial.back l.initial.found G s t x →
    Rest o.thing o.leq O m (turned_round m) G s t ((n - l._round) + (n - l._round)) (l._round + l._round) (run O (n + n) G s t x)
    (g.F.Fringe.well l.near) (g.F.Fringe.meaning l.near) (g.N.Fringe.well l.far) (g.N.Fringe.meaning l.far) l.fore l.back l.found)
    × (g.F.Fringe.well l.initial.near → Steady (g.F.Fringe.well l.near) (g.F.Fringe.meaning l.initial.near) (g.F.Fringe.meaning l.near))
    × (g.N.Fringe.well l.initial.far → Steady (g.N.Fringe.well l.far) (g.N.Fringe.meaning l.initial.far) (g.N.Fringe.meaning l.far))
