-- The chain of origins of a label, and the route that two chains make.
use Rattle.std.specs.Prelude.{◌≡◌, ℕ, ◌<◌, List, [], ◌∷◌, ◌++◌}
use Rattle.routes.specs.Promise.{Among, NoneTwice}
use Rattle.routes.specs.Costs.{Costs, Same}
use Rattle.routes.specs.Walks.{Roads}
use Rattle.routes.specs.States.{Origin, Start, From, Label, Blank, Reached, Settled, Side, State, Has}

-- the label is there, at cost c, from o
abbrev pub Holds : {K : Type 0} → Label K → K → Origin → Type 0
Holds Blank c o = ⊥
Holds (Reached d q) c o = (d ≡ c) × (q ≡ o)
Holds (Settled d q) c o = (d ≡ c) × (q ≡ o)

-- the first list turned round, before the second
abbrev pub onto : List ℕ → List ℕ → List ℕ
onto [] m = m
onto (a ∷ l) m = onto l (a ∷ m)

-- the places from v along the origins to the side's start
pub data Trail {K : Type 0} (σ : Side K) : ℕ → List ℕ → Type 0 where
  first : {v : ℕ} (c : K) → Holds (σ.label v) c Start → Trail σ v (v ∷ [])
  then : {v u : ℕ} {l : List ℕ} (c : K) → Holds (σ.label v) c (From u) → Trail σ u l → Trail σ v (v ∷ l)

-- a walk with its places, the first and the last among them
pub data Route (C : Costs) (E : ℕ → ℕ → C.Cost → Type 0) : ℕ → ℕ → List ℕ → C.Cost → Type 0 where
  end : {a : ℕ} → Route C E a a (a ∷ []) C.free
  go : {a b d : ℕ} {l : List ℕ} {p c : C.Cost} → E a b p → Route C E b d l c → Route C E a d (a ∷ l) (C.◌⊕◌ p c)

-- a route whose cost stands for c
abbrev pub Course : (C : Costs) → Roads C → ℕ → ℕ → List ℕ → C.Cost → Type 0
Course C E a b l c = (w : C.Cost) × Route C E a b l w × Same C w c

module _ (C : Costs) where
  open C use {Cost, ◌≼◌, ◌⊕◌, free}

  infixl 65 ◌⊕◌
  -- what is kept of the origins: they lead, at the label's cost, to places of lower rank, and end at a start
  pub record Rooted (E : Roads C) (starts : ℕ → Type 0) (σ : Side Cost) (rank : ℕ → ℕ) : Type 0 where
    pub root : (v : ℕ) (c : Cost) → Holds (σ.label v) c Start → starts v × (c ≡ free)
    pub from : (v u : ℕ) (c : Cost) → Holds (σ.label v) c (From u) →
        (d : Cost) × (p : Cost) × Has (σ.label u) d × E u v p × (c ≡ d ⊕ p) × (rank u < rank v)

  -- the answered route: of the two chains of meet, the forward one up to its first place on the backward one, then the backward one
  pub record Simple (E : Roads C) (s t : ℕ) (x : State Cost) : Type 0 where
    pub chain : List ℕ
    pub other : List ℕ
    pub forward : Trail x.fore x.meet chain
    pub backward : Trail x.back x.meet other
    pub cut : ℕ
    pub front : List ℕ
    pub other_front : List ℕ
    pub ahead : List ℕ
    pub rest : List ℕ
    pub chain_is : chain ≡ front ++ (cut ∷ ahead)
    pub other_is : other ≡ other_front ++ (cut ∷ rest)
    pub to_cut : Trail x.fore cut (cut ∷ ahead)
    pub from_cut : Trail x.back cut (cut ∷ rest)
    pub common : Among cut other
    pub lone : (y : ℕ) → Among y ahead → Among y other → ⊥
    pub route : Course C E s t (onto ahead (cut ∷ rest)) x.best
    pub no_twice : NoneTwice (onto ahead (cut ∷ rest))
