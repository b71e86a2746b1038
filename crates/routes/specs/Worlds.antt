-- The map that is searched: roads now, roads of the base map, districts, and the table of least costs between districts.
use Rattle.std.specs.Prelude.{◌≡◌, ℕ, ◌<◌, ◌≤◌, ◌⊎◌, ◌≢◌}
use Rattle.routes.specs.Costs.{Costs, Priced}
use Rattle.routes.specs.Walks.{Back, Walk}

module _ (C : Costs) where
  open C use {Cost, ◌≼◌, ◌⊕◌, free, blocked}

  infix 40 ◌≼◌
  pub record World : Type 1 where
    pub Edge : ℕ → ℕ → Cost → Type 0
    pub Base : ℕ → ℕ → Cost → Type 0
    pub Border : ℕ → Type 0
    pub district : ℕ → ℕ
    pub entry : ℕ → ℕ → Cost
    pub size : ℕ

  -- The table is lower bounds only: an entry that was not prepared is free, and `low`, `none` and `listed` hold of it.
  pub record Lawful (W : World) : Type 0 where
    pub small : W.size ≤ 1024
    pub inside : (u v : ℕ) (p : Cost) → W.Edge u v p → (u < W.size) × (v < W.size)
    pub prices : (u v : ℕ) (p : Cost) → W.Edge u v p → Priced C 1 p
    pub single : (u v : ℕ) (p q : Cost) → W.Edge u v p → W.Edge u v q → p ≡ q
    pub base : (u v : ℕ) (p : Cost) → W.Edge u v p → (q : Cost) × W.Base u v q × (q ≼ p)
    pub crossing : (u v : ℕ) (p : Cost) → W.Edge u v p → (W.district u ≢ W.district v) → W.Border u × W.Border v
    pub low : (a b : ℕ) (c : Cost) → a < W.size → b < W.size → Walk C W.Base a b c → W.entry (W.district a) (W.district b) ≼ c
    pub none : (a b : ℕ) (c : Cost) → a < W.size → b < W.size → Walk C W.Base a b c → blocked ≼ W.entry (W.district a) (W.district b) → ⊥
    pub listed : (a b : ℕ) → a < W.size → b < W.size → (blocked ≼ W.entry (W.district a) (W.district b)) ⊎ Priced C 1024 (W.entry (W.district a) (W.district b))

  -- all roads the other way round
  abbrev pub mirror : World → World
  mirror W = record
      { Edge = Back C W.Edge; Base = Back C W.Base; Border = W.Border; district = W.district; entry = λ i j. W.entry j i; size = W.size }

  -- a border place of the district of a
  abbrev pub Own : World → ℕ → ℕ → Type 0
  Own W a z = W.Border z × (W.district z ≡ W.district a)
