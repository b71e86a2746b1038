-- A whole search: the beginning, and turns of either side.
use Rattle.std.specs.Prelude.{◌≡◌, ℕ, ◌⊎◌, ◌≢◌}
use Rattle.std.proofs.Math.Option.{none}
use Rattle.routes.specs.Costs.{Costs}
use Rattle.routes.specs.Walks.{At}
use Rattle.routes.specs.Worlds.{World, mirror}
use Rattle.routes.specs.States.{Start, Blank, Reached, Side, State, swap}
use Rattle.routes.specs.Turns.{Turn}

module _ (C : Costs) where
  open C use {Cost, free, blocked}

  -- a side begins: its starts are reached at nothing, all else is blank
  pub record Sets (starts : ℕ → Type 0) (σ : Side Cost) : Type 0 where
    pub start : (v : ℕ) → starts v → σ.label v ≡ Reached free Start
    pub blank : (v : ℕ) → (starts v → ⊥) → σ.label v ≡ Blank
    pub no_gate : σ.gate ≡ none

  pub record Begins (s t : ℕ) (x : State Cost) : Type 0 where
    pub fore : Sets (At s) x.fore
    pub back : Sets (At t) x.back
    pub costs : ((s ≡ t) × (x.best ≡ free) × (x.upper ≡ free) × (x.meet ≡ s)) ⊎ ((s ≢ t) × (x.best ≡ blocked) × (x.upper ≡ blocked))

  -- the states that a search comes to; nothing rests on the sides' taking turns
  pub data Comes (W : World C) (s t : ℕ) : State Cost → Type 0 where
    begin : {x : State Cost} → Begins s t x → Comes W s t x
    forth : {x x' : State Cost} → Comes W s t x → Turn C W s t x x' → Comes W s t x'
    back : {x x' : State Cost} → Comes W s t x → Turn C (mirror C W) t s (swap x) (swap x') → Comes W s t x'
