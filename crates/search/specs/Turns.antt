-- What a turn of one side does to the state of the search.
use Rattle.std.specs.Prelude.{◌≡◌, ℕ, Bool, true, List, length, Some, None, Option}
use Rattle.std.proofs.Math.Option.{Option as Maybe, some, none}
use Rattle.fringe.specs.declared.place.Place.{Place}
use Rattle.fringe.specs.Fringes.{Meaning}
use Rattle.map.specs.Model.{MapModel}
use Rattle.routes.specs.declared.labels.Label.{Label}
use Rattle.routes.specs.Labels.{start_at}
use Rattle.routes.specs.Search.{Ops, Given, Both, Found, next, step}
use Rattle.halves.specs.Agreement.{Agree}
use Rattle.turns.specs.declared.findings.Findings.{Findings}
use Rattle.turns.specs.Findings.{Shown, FewTurns}
use Rattle.turns.specs.Fits.{Fits}

-- Whether the search is over: a side has nothing reached, or the sum of both least costs is not below best.
abbrev pub is_over : {K : Type 0} → Ops K → Maybe (Found K) → Maybe (Found K) → K → Bool
is_over O none b best = true
is_over O (some a) none best = true
is_over O (some a) (some b) best = O.leq best (O.◌⊕◌ a.cost b.cost)

-- The same of what two fringes hold at least.
abbrev pub sum_reaches : {K T : Type 0} → (K → T) → (T → T → Bool) → (K → K → K) → Option (Place × K) → Option (Place × K) → K → Bool
sum_reaches thing leq plus None b best = true
sum_reaches thing leq plus (Some a) None best = true
sum_reaches thing leq plus (Some a) (Some b) best = leq (thing best) (thing (plus a.1 b.1))

-- The state before the turn of a side that starts at s, over a map that means m, and whose other side starts at t: x, as
-- labels, fringes and findings have it. `V` and `W` say that the own and the other fringe are in order.
pub record Turning {K T : Type 0} (thing : K → T) (leq : T → T → Bool) (price : ℕ → ℕ → K) (m : MapModel) (places : ℕ) (back_of : ℕ → ℕ)
    (V : Type 0) (near : Meaning K) (W : Type 0) (far : Meaning K) (mine theirs : List (Label K)) (found : Findings K) (G : Given K) (x : Both K) : Type 0 where
  pub fits : Fits price m G
  pub level : places ≡ m.places
  pub sized : length mine ≡ m.places
  pub shown : Shown (start_at m) back_of mine theirs found x
  pub agree : Agree thing leq V near mine
  pub others_agree : Agree thing leq W far theirs
  pub few : FewTurns x

-- The search was over, and the labels are as they were.
pub record Over {K : Type 0} (O : Ops K) (mine mine' : List (Label K)) (x : Both K) : Type 0 where
  pub no_next : next O x ≡ none
  pub same : mine' ≡ mine

-- A turn was taken.
pub record Moved {K T : Type 0} (thing : K → T) (leq : T → T → Bool) (O : Ops K) (m : MapModel) (back_of : ℕ → ℕ) (V : Type 0) (near : Meaning K)
    (mine theirs : List (Label K)) (found : Findings K) (G : Given K) (s t : ℕ) (x : Both K) : Type 0 where
  pub place : Found K
  pub next_is : next O x ≡ some place
  pub shown : Shown (start_at m) back_of mine theirs found (step O G s t x place)
  pub agree : Agree thing leq V near mine

-- What a turn did, by its answer.
abbrev pub Taken : {K T : Type 0} → (K → T) → (T → T → Bool) → Ops K → MapModel → (ℕ → ℕ) → (V : Type 0) → Meaning K →
    (mine mine' theirs : List (Label K)) → Given K → (s t : ℕ) → Both K → Option (Findings K) → Type 0
Taken thing leq O m back_of V near mine mine' theirs G s t x None = Over O mine mine' x
Taken thing leq O m back_of V near mine mine' theirs G s t x (Some found) = Moved thing leq O m back_of V near mine' theirs found G s t x
