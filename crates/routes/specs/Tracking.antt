-- A fringe beside the labels of a side.
use Rattle.std.specs.Prelude.{ℕ, Bool, List, Some, None, Option}
use Rattle.fringe.specs.Fringes.{Meaning, Alike}
use Rattle.routes.specs.States.{Label, Blank, Reached, Settled}
use Rattle.routes.specs.Search.{label_at}

-- The cost of a label that is reached.
abbrev pub reached_cost : {K : Type 0} → Label K → Option K
reached_cost Blank = None
reached_cost (Reached c o) = Some c
reached_cost (Settled c o) = None

-- The fringe holds the reached places, at costs that stand for those of their labels, and no others.
abbrev pub Tracks : {K T : Type 0} → (K → T) → (T → T → Bool) → Meaning K → List (Label K) → Type 0
Tracks thing leq m l = (q : ℕ) → Alike thing leq (m.held q) (reached_cost (label_at l q))
