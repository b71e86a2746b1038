-- What is found in a turn, as code has it.
use Rattle.std.specs.Prelude.{ℕ, ◌+◌, ◌-◌, ◌^◌, min, Bool, cond, Some, None, Option}
use Rattle.fringe.specs.declared.place.Place.{Place}
use Rattle.turns.specs.declared.findings.Findings.{Findings}

-- One more, as far as a number of code goes.
abbrev pub one_more : ℕ → ℕ
one_more n = min (n + 1) (2 ^ 64 - 1)

-- One place more was pruned.
abbrev pub pruned_by : {K : Type 0} → Findings K → Option K → K → Findings K
pruned_by found gate upper = record {
  own_gate = gate;
  other_gate = found.other_gate;
  best = found.best;
  upper = upper;
  meet = found.meet;
  expanded = found.expanded;
  pruned = one_more found.pruned;
}

-- One place more was expanded.
abbrev pub opened_by : {K : Type 0} → Findings K → Option K → K → Findings K
opened_by found gate upper = record {
  own_gate = gate;
  other_gate = found.other_gate;
  best = found.best;
  upper = upper;
  meet = found.meet;
  expanded = one_more found.expanded;
  pruned = found.pruned;
}

module _ {K T : Type 0} (thing : K → T) (leq : T → T → Bool) where
  -- The lesser of two costs, and the first where they stand for one thing.
  abbrev pub lesser_of : K → K → K
  lesser_of a b = cond (leq (thing a) (thing b)) a b

  -- And the sides met at a place and a sum, if they met: the sum becomes best if it is below best, and the upper bound
  -- falls with it.
  abbrev pub expanded_by : Findings K → Option K → K → Option (Place × K) → Findings K
  expanded_by found gate upper None = opened_by found gate upper
  expanded_by found gate upper (Some m) = cond (leq (thing found.best) (thing m.1)) (opened_by found gate upper) (record {
    own_gate = gate;
    other_gate = found.other_gate;
    best = m.1;
    upper = lesser_of upper m.1;
    meet = m.0;
    expanded = one_more found.expanded;
    pruned = found.pruned;
  })
