-- Preparing, as a relation: one side spreads over the base map from all places of a district at once, until nothing
-- is reached. Nothing is pruned. Of each district the place settled first is kept.
use Rattle.std.specs.Prelude.{◌≡◌, ℕ, ◌<◌, ◌≤◌, ◌⊎◌, ◌≢◌}
use Rattle.std.proofs.Math.Option.{Option, some, none}
use Rattle.routes.specs.Costs.{Costs, Priced}
use Rattle.routes.specs.Walks.{Roads, Walk, Way}
use Rattle.routes.specs.States.{Origin, Start, From, Side, IsReached, IsSettled, Pruned}
use Rattle.routes.specs.Routes.{Holds}
use Rattle.routes.specs.Turns.{Settles, Expands}
use Rattle.routes.specs.Kept.{One}
use Rattle.routes.specs.Runs.{Sets}

-- the chain of origins of v begins at a
pub data Stems {K : Type 0} (σ : Side K) : ℕ → ℕ → Type 0 where
  here : {v : ℕ} (c : K) → Holds (σ.label v) c Start → Stems σ v v
  on : {v u a : ℕ} (c : K) → Holds (σ.label v) c (From u) → Stems σ u a → Stems σ v a

-- the side, and the first place settled of each district
pub record Spread (K : Type 0) : Type 0 where
  pub side : Side K
  pub first : ℕ → Option ℕ

-- u is the first place settled of its district, if that had none
pub record Firsts (district : ℕ → ℕ) (first first' : ℕ → Option ℕ) (u : ℕ) : Type 0 where
  pub known : (j v : ℕ) → first j ≡ some v → first' j ≡ some v
  pub fresh : (j : ℕ) → first j ≡ none → ((district u ≡ j) × (first' j ≡ some u)) ⊎ ((district u ≢ j) × (first' j ≡ none))

module _ (C : Costs) (E : Roads C) (district : ℕ → ℕ) where
  open C use {Cost, ◌≼◌}

  infix 40 ◌≼◌
  -- what is asked of the map and of the starts
  pub record Ground (size : ℕ) (starts : ℕ → Type 0) : Type 0 where
    pub small : size ≤ 1024
    pub which : (v : ℕ) → starts v ⊎ (starts v → ⊥)
    pub room : (v : ℕ) → starts v → v < size
    pub inside : (u v : ℕ) (p : Cost) → E u v p → v < size
    pub prices : (u v : ℕ) (p : Cost) → E u v p → Priced C 1 p
    pub single : (u v : ℕ) (p q : Cost) → E u v p → E u v q → p ≡ q

  -- the nearest reached place is settled and expanded
  pub record Spreads (x x' : Spread Cost) : Type 0 where
    pub u : ℕ
    pub c : Cost
    pub origin : Origin
    pub mid : Side Cost
    pub settles : Settles C x.side mid u c origin
    pub expands : Expands C E mid x'.side u c
    pub firsts : Firsts district x.first x'.first u

  pub data Grows (starts : ℕ → Type 0) : Spread Cost → Type 0 where
    begin : {x : Spread Cost} → Sets C starts x.side → ((j : ℕ) → x.first j ≡ none) → Grows starts x
    turn : {x x' : Spread Cost} → Grows starts x → Spreads x x' → Grows starts x'

  abbrev pub Ended : Spread Cost → Type 0
  Ended x = (v : ℕ) (c : Cost) → IsReached (x.side.label v) c → ⊥

  -- what every turn keeps: the first place of a district is the nearest of its settled places
  abbrev pub FirstOk : Side Cost → ℕ → Option ℕ → Type 0
  FirstOk σ j none = (b : ℕ) (d : Cost) → IsSettled (σ.label b) d → district b ≢ j
  FirstOk σ j (some v) = (c : Cost) × IsSettled (σ.label v) c × (district v ≡ j) × ((b : ℕ) (d : Cost) → IsSettled (σ.label b) d → district b ≡ j → c ≼ d)

  pub record Spreading (size : ℕ) (starts : ℕ → Type 0) (x : Spread Cost) : Type 0 where
    pub rank : ℕ → ℕ
    pub one : One C E size starts x.side rank
    pub whole : (v : ℕ) (c : Cost) → Pruned x.side v c → ⊥
    pub firsts : (j : ℕ) → FirstOk x.side j (x.first j)

  -- v, of district j, has the least cost of all walks from a start to a place of j, and where its chain begins is a start, joined to it at that cost
  pub record Closest (starts : ℕ → Type 0) (σ : Side Cost) (j v : ℕ) : Type 0 where
    pub cost : Cost
    pub settled : IsSettled (σ.label v) cost
    pub inside : district v ≡ j
    pub least : (a b : ℕ) (w : Cost) → starts a → district b ≡ j → Walk C E a b w → cost ≼ w
    pub root : ℕ
    pub stems : Stems σ v root
    pub joined : (a : ℕ) → Stems σ v a → starts a × Way C E a v cost
    pub few_prices : Priced C 1024 cost

  -- what the end of a spread says
  pub record Spanned (starts : ℕ → Type 0) (x : Spread Cost) : Type 0 where
    -- the settled places are those that a walk leads to, each at the least cost
    pub reaches : (a v : ℕ) (w : Cost) → starts a → Walk C E a v w → (c : Cost) × IsSettled (x.side.label v) c × (c ≼ w)
    pub reached : (v : ℕ) (c : Cost) → IsSettled (x.side.label v) c → (a : ℕ) × starts a × Way C E a v c
    -- the districts
    pub closest : (j v : ℕ) → x.first j ≡ some v → Closest starts x.side j v
    pub no_walk : (j : ℕ) → x.first j ≡ none → (a b : ℕ) (w : Cost) → starts a → district b ≡ j → Walk C E a b w → ⊥
