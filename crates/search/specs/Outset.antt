-- What is found before the first turn.
use Rattle.std.specs.Prelude.{ℕ, cond, None, ◌==◌}
use Rattle.fringe.specs.declared.place.Place.{Place}
use Rattle.turns.specs.declared.findings.Findings.{Findings}

-- The cost at which the sides have met before the first turn: nothing if start and goal are one place, and otherwise blocked.
abbrev pub first_cost : {K : Type 0} → K → K → ℕ → ℕ → K
first_cost zero blocked s t = cond (s == t) zero blocked

-- Best and the upper bound are that cost, the meeting place is the start, and nothing else is known.
abbrev pub outset : {K : Type 0} → K → K → Place → Place → Findings K
outset zero blocked start goal = record {
  own_gate = None;
  other_gate = None;
  best = first_cost zero blocked start.0 goal.0;
  upper = first_cost zero blocked start.0 goal.0;
  meet = start;
  expanded = 0;
  pruned = 0;
}
