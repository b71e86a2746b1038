-- How the sides take turns, and what the search leaves.
use Rattle.std.specs.Prelude.{◌≡◌, ℕ, ◌+◌, Bool, List, length}
use Rattle.fringe.specs.Fringes.{Meaning}
use Rattle.map.specs.Model.{MapModel}
use Rattle.map.specs.Turned.{turned_round}
use Rattle.measure.specs.Costs.{CostLaws}
use Rattle.routes.specs.declared.labels.Label.{Label}
use Rattle.routes.specs.Labels.{start_at, labels_view}
use Rattle.routes.specs.Search.{Given, Both, flip}
use Rattle.halves.specs.Agreement.{Agree}
use Rattle.turns.specs.declared.findings.Findings.{Findings}
use Rattle.turns.specs.Findings.{Shown}
use Rattle.turns.specs.Fits.{Fits}
use Rattle.search.specs.declared.guides.Guide.{Guide}
use Rattle.search.specs.Guides.{Guides}

-- What was found, from the other side's point of view: the gate costs change places.
abbrev pub swapped : {K : Type 0} → Findings K → Findings K
swapped found = record {
  own_gate = found.other_gate;
  other_gate = found.own_gate;
  best = found.best;
  upper = found.upper;
  meet = found.meet;
  expanded = found.expanded;
  pruned = found.pruned;
}

-- The state x as labels, fringes and findings have it, over a map that means m. `V` and `W` say that the fringes are in
-- order.
pub record Ready {K T : Type 0} (thing : K → T) (leq : T → T → Bool) (m : MapModel) (V : Type 0) (near : Meaning K) (W : Type 0) (far : Meaning K)
    (fore back : List (Label K)) (found : Findings K) (x : Both K) : Type 0 where
  pub sized : length fore ≡ m.places
  pub others_sized : length back ≡ m.places
  pub shown : Shown (start_at m) (start_at (turned_round m)) fore back found x
  pub agree : Agree thing leq V near fore
  pub others_agree : Agree thing leq W far back

-- What a search over a map that means m left: the labels of both sides, best, where they met, and the counts, of the state x.
pub record Left {K : Type 0} (m : MapModel) (fore back : List (Label K)) (found : Findings K) (x : Both K) : Type 0 where
  pub fore_is : x.fore.labels ≡ labels_view (start_at m) fore
  pub back_is : x.back.labels ≡ labels_view (start_at (turned_round m)) back
  pub best : x.best ≡ found.best
  pub meet : x.meet ≡ found.meet.0
  pub expansions : x.expansions ≡ found.expanded
  pub prunings : x.prunings ≡ found.pruned

-- What is given to both sides is that of a map that means m, and their base maps have as many places.
pub record Grounds {K : Type 0} (price : ℕ → ℕ → K) (m : MapModel) (along_places against_places : ℕ) (G : Given K) : Type 0 where
  pub along : Fits price m G
  pub against : Fits price (turned_round m) (flip G)
  pub along_level : along_places ≡ m.places
  pub against_level : against_places ≡ m.places

-- The beginning of a search from s to t of what G gives, with the state x: both sides have their guides, and no turn was
-- taken yet.
pub record Begun {K T B : Type 0} (thing : K → T) (leq : T → T → Bool) (plus : K → K → K) (nil blocked : K) (price : ℕ → ℕ → K) (code : K → ℕ) (decoded : ℕ → K)
    (m along_base against_base : MapModel) (along against : Guide B) (V : Type 0) (near : Meaning K) (W : Type 0) (far : Meaning K)
    (fore back : List (Label K)) (found : Findings K) (G : Given K) (s t : ℕ) (x : Both K) : Type 0 where
  pub laws : CostLaws thing leq plus nil blocked price code
  pub along_guided : Guides nil decoded along_base along G s t
  pub against_guided : Guides nil decoded against_base against (flip G) t s
  pub grounds : Grounds price m along_base.places against_base.places G
  pub ready : Ready thing leq m V near W far fore back found x
  pub no_turns : x.expansions + x.prunings ≡ 0
