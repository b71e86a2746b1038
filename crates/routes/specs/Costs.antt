-- Costs are stored values: a total preorder with a sum, a least cost `free` and a greatest cost `blocked`.
-- Two stored values that are at most each other stand for the same cost; the equations hold up to that.
use Rattle.std.specs.Prelude.{ℕ, ◌≤◌, ◌⊎◌, List, length}
use Rattle.measure.specs.Costs.{Figures, total}

-- at most, both ways
abbrev pub EachWay : {K : Type 0} → (K → K → Type 0) → K → K → Type 0
EachWay R a b = R a b × R b a

pub record Costs : Type 1 where
  infix 40 ◌≼◌
  infixl 65 ◌⊕◌
  pub Cost : Type 0
  pub ◌≼◌ : Cost → Cost → Type 0
  pub ◌⊕◌ : Cost → Cost → Cost
  pub free : Cost
  pub blocked : Cost
  pub price : ℕ → ℕ → Cost
  -- the order
  pub ≼_refl : (a : Cost) → a ≼ a
  pub ≼_trans : (a b c : Cost) → a ≼ b → b ≼ c → a ≼ c
  pub ≼_total : (a b : Cost) → (a ≼ b) ⊎ (b ≼ a)
  -- the sum
  pub ⊕_assoc : (a b c : Cost) → EachWay ◌≼◌ ((a ⊕ b) ⊕ c) (a ⊕ (b ⊕ c))
  pub ⊕_comm : (a b : Cost) → EachWay ◌≼◌ (a ⊕ b) (b ⊕ a)
  pub free_⊕ : (a : Cost) → EachWay ◌≼◌ (free ⊕ a) a
  pub ⊕_more : (a b : Cost) → a ≼ a ⊕ b
  pub ⊕_mono : (a b c : Cost) → a ≼ b → a ⊕ c ≼ b ⊕ c
  -- blocked
  pub ≼_blocked : (a : Cost) → a ≼ blocked
  pub few : (roads : List Figures) → length roads ≤ 4096 → blocked ≼ total ◌⊕◌ free price roads → ⊥

-- a and b stand for the same cost
abbrev pub Same : (C : Costs) → C.Cost → C.Cost → Type 0
Same C a b = EachWay C.◌≼◌ a b

-- c stands for a sum of at most k prices of roads
abbrev pub Priced : (C : Costs) → ℕ → C.Cost → Type 0
Priced C k c = (roads : List Figures) × (length roads ≤ k) × Same C c (total C.◌⊕◌ C.free C.price roads)
