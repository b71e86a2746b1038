-- The whole invariant: what every turn keeps. From it follow the facts of `Invariants` and `Routes`.
use Rattle.std.specs.Prelude.{◌≡◌, ℕ, zero, suc, ◌+◌, ◌<◌, ◌≤◌, ◌⊎◌}
use Rattle.std.proofs.Math.Option.{some, none}
use Rattle.routes.specs.Costs.{Costs, Priced}
use Rattle.routes.specs.Walks.{Roads, Back, Walk, WayFrom, At}
use Rattle.routes.specs.States.{Start, From, Label, Blank, Reached, Settled, Side, State, Has, IsReached, IsSettled, Expanded, Pruned}
use Rattle.routes.specs.Routes.{Holds}
use Rattle.routes.specs.Invariants.{Cut, Met, Attained, Covered}

-- how many places below n are settled
abbrev pub weight : {K : Type 0} → Label K → ℕ
weight Blank = 0
weight (Reached c o) = 0
weight (Settled c o) = 1

abbrev pub tally : {K : Type 0} → (ℕ → Label K) → ℕ → ℕ
tally f zero = 0
tally f (suc n) = weight (f n) + tally f n

module _ (C : Costs) where
  open C use {Cost, ◌≼◌, ◌⊕◌, free}

  infix 40 ◌≼◌
  infixl 65 ◌⊕◌
  -- one side; rank says in which order its places were settled, and is higher at those that are not
  pub record One (E : Roads C) (size : ℕ) (starts : ℕ → Type 0) (σ : Side Cost) (rank : ℕ → ℕ) : Type 0 where
    pub sound : (v : ℕ) (c : Cost) → Has (σ.label v) c → WayFrom C E starts v c
    pub counted : (v : ℕ) (c : Cost) → Has (σ.label v) c → Priced C (tally σ.label size) c
    pub inside : (v : ℕ) (c : Cost) → Has (σ.label v) c → v < size
    pub ordered : (u v : ℕ) (c d : Cost) → IsSettled (σ.label u) c → IsReached (σ.label v) d → c ≼ d
    pub relaxed : (u v : ℕ) (c p : Cost) → Expanded σ u c → E u v p → (d : Cost) × Has (σ.label v) d × (d ≼ c ⊕ p)
    pub begun : (a : ℕ) → starts a → (d : Cost) × Has (σ.label a) d × (d ≼ free)
    pub root : (v : ℕ) (c : Cost) → Holds (σ.label v) c Start → starts v × (c ≡ free)
    pub from : (v u : ℕ) (c : Cost) → Holds (σ.label v) c (From u) →
        (d : Cost) × (p : Cost) × IsSettled (σ.label u) d × E u v p × (c ≡ d ⊕ p) × (rank u < rank v)
    pub later : (u v : ℕ) (c : Cost) → IsSettled (σ.label u) c → ((d : Cost) → IsSettled (σ.label v) d → ⊥) → rank u < rank v
    pub ranked : (v : ℕ) → rank v ≤ tally σ.label size

  -- nothing is pruned before the side's own gate is known
  abbrev pub Unpruned : Side Cost → Type 0
  Unpruned σ = σ.gate ≡ none → (z : ℕ) (c : Cost) → Pruned σ z c → ⊥

  -- one side's gate: until it is known no own border place is settled; from then on each walk from the start
  -- to an own border place, or to a place not settled, costs at least as much
  pub record Gated (E : Roads C) (own : ℕ → Type 0) (s : ℕ) (σ : Side Cost) : Type 0 where
    pub unmet : σ.gate ≡ none → (z : ℕ) (c : Cost) → own z → IsSettled (σ.label z) c → ⊥
    pub few_prices : (g : Cost) → σ.gate ≡ some g → Priced C 1024 g
    pub bound : (g : Cost) → σ.gate ≡ some g → (z : ℕ) → own z ⊎ ((c : Cost) → IsSettled (σ.label z) c → ⊥) → (q : Cost) → Walk C E s z q → g ≼ q

  -- both sides
  pub record Keeping (E : Roads C) (own_s own_t : ℕ → Type 0) (size s t : ℕ) (x : State Cost) : Type 0 where
    pub rank_f : ℕ → ℕ
    pub rank_b : ℕ → ℕ
    pub fore : One E size (At s) x.fore rank_f
    pub back : One (Back C E) size (At t) x.back rank_b
    pub gate_f : Gated E own_s s x.fore
    pub gate_b : Gated (Back C E) own_t t x.back
    pub whole_f : Unpruned x.fore
    pub whole_b : Unpruned x.back
    pub cut_f : Cut C E t x.fore x.upper
    pub cut_b : Cut C (Back C E) s x.back x.upper
    pub met : Met C E s t x.fore x.back x.best
    pub attained : Attained C x.fore x.back x.meet x.best
    pub covered : Covered C E s t x.best x.upper
