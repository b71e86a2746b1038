-- A turn of one side, as a relation between states. It is written for the forward side; the backward side's turn is the
-- same in the mirrored world, from the swapped state.
use Rattle.std.specs.Prelude.{◌≡◌, ℕ, true, false, ◌⊎◌, ◌≢◌}
use Rattle.std.proofs.Math.Option.{some, none}
use Rattle.routes.specs.Costs.{Costs}
use Rattle.routes.specs.Walks.{Roads, Way}
use Rattle.routes.specs.States.{Origin, From, Reached, Settled, Side, State, Has, IsReached, IsSettled}
use Rattle.routes.specs.Worlds.{World, Own}

module _ (C : Costs) where
  open C use {Cost, ◌≼◌, ◌⊕◌, blocked}

  infix 40 ◌≼◌
  infixl 65 ◌⊕◌
  -- u, reached at the least cost c, is settled
  pub record Settles (σ σ' : Side Cost) (u : ℕ) (c : Cost) (o : Origin) : Type 0 where
    pub was : σ.label u ≡ Reached c o
    pub is : σ'.label u ≡ Settled c o
    pub least : (v : ℕ) (d : Cost) → IsReached (σ.label v) d → c ≼ d
    pub others : (v : ℕ) → (v ≢ u) → σ'.label v ≡ σ.label v
    pub unexpanded : σ'.expanded u ≡ false
    pub same : (v : ℕ) → (v ≢ u) → σ'.expanded v ≡ σ.expanded v

  -- the first settled border place of the own start district gives the gate cost
  pub record Gates (own : ℕ → Type 0) (σ σ' : Side Cost) (u : ℕ) (c : Cost) : Type 0 where
    pub known : (g : Cost) → σ.gate ≡ some g → σ'.gate ≡ some g
    pub fresh : σ.gate ≡ none → (own u × (σ'.gate ≡ some c)) ⊎ ((own u → ⊥) × (σ'.gate ≡ none))

  -- the road from u to v is relaxed
  pub record Relaxes (E : Roads C) (σ σ' : Side Cost) (u : ℕ) (c : Cost) (v : ℕ) (p : Cost) : Type 0 where
    pub road : E u v p
    pub unsettled : (d : Cost) → IsSettled (σ.label v) d → ⊥
    pub less : (d : Cost) → Has (σ.label v) d → c ⊕ p ≼ d
    pub is : σ'.label v ≡ Reached (c ⊕ p) (From u)

  pub record Leaves (E : Roads C) (σ σ' : Side Cost) (u : ℕ) (c : Cost) (v : ℕ) : Type 0 where
    pub fits : (p : Cost) → E u v p → (d : Cost) × (IsSettled (σ.label v) d ⊎ (Has (σ.label v) d × (d ≼ c ⊕ p)))
    pub is : σ'.label v ≡ σ.label v

  pub record Expands (E : Roads C) (σ σ' : Side Cost) (u : ℕ) (c : Cost) : Type 0 where
    pub labels : (v : ℕ) → Leaves E σ σ' u c v ⊎ ((p : Cost) × Relaxes E σ σ' u c v p)
    pub expanded_now : σ'.expanded u ≡ true
    pub same : (v : ℕ) → (v ≢ u) → σ'.expanded v ≡ σ.expanded v
    pub gate_same : σ'.gate ≡ σ.gate

  -- the upper bound stays, or falls to the cost of a way through a prepared pair
  abbrev pub Shortcut : (E : Roads C) (entry : Cost) (τ : Side Cost) (u : ℕ) (c before after : Cost) → Type 0
  Shortcut E entry τ u c before after =
      (after ≡ before) ⊎ ((y : ℕ) × (d : Cost) × Way C E u y entry × IsSettled (τ.label y) d × (after ≡ (c ⊕ entry) ⊕ d) × (after ≼ before))

  -- u is pruned: the lower bound of all walks through it is blocked or above the upper bound
  pub record Prunes (entry : Cost) (σ τ : Side Cost) (u : ℕ) (c upper : Cost) : Type 0 where
    pub gate : Cost
    pub other : Cost
    pub gate_is : σ.gate ≡ some gate
    pub other_is : τ.gate ≡ some other
    pub unsettled : (d : Cost) → IsSettled (τ.label u) d → ⊥
    pub dear : (blocked ≼ (c ⊕ entry) ⊕ other) ⊎ ((c ⊕ entry) ⊕ other ≼ upper → ⊥)

  -- best falls to the least sum over the far ends of u, and the upper bound with it
  pub record Picks (E : Roads C) (σ τ : Side Cost) (u meet meet' : ℕ) (best best' upper upper' : Cost) : Type 0 where
    pub less : best' ≼ best
    pub each : (v : ℕ) (p a b : Cost) → E u v p → Has (σ.label v) a → Has (τ.label v) b → best' ≼ a ⊕ b
    pub made : ((best' ≡ best) × (meet' ≡ meet)) ⊎ ((a : Cost) × (b : Cost) × Has (σ.label meet') a × Has (τ.label meet') b × (a ⊕ b ≡ best'))
    pub falls : upper' ≼ upper
    pub upper_is : (upper' ≡ upper) ⊎ (upper' ≡ best')

  module _ (W : World C) (s t : ℕ) (x x' : State Cost) where
    abbrev between : ℕ → Cost
    between u = W.entry (W.district u) (W.district t)

    pub record Settling (u : ℕ) (c : Cost) (mid : Side Cost) (low : Cost) : Type 0 where
      pub origin : Origin
      pub settles : Settles x.fore mid u c origin
      pub gates : Gates (Own C W s) x.fore mid u c
      pub shortcut : Shortcut W.Edge (between u) x.back u c x.upper low
      pub back_same : x'.back ≡ x.back

    -- the side takes a place and prunes it
    pub record TurnPruned : Type 0 where
      pub u : ℕ
      pub c : Cost
      pub settling : Settling u c x'.fore x'.upper
      pub prunes : Prunes (between u) x'.fore x.back u c x'.upper
      pub best_same : x'.best ≡ x.best
      pub meet_same : x'.meet ≡ x.meet

    -- the side takes a place and expands it
    pub record TurnExpanded : Type 0 where
      pub u : ℕ
      pub c : Cost
      pub mid : Side Cost
      pub low : Cost
      pub settling : Settling u c mid low
      pub expands : Expands W.Edge mid x'.fore u c
      pub picks : Picks W.Edge x'.fore x.back u x.meet x'.meet x.best x'.best low x'.upper

    abbrev pub Turn : Type 0
    Turn = TurnPruned ⊎ TurnExpanded
