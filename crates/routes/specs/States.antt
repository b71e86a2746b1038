-- What one side of the search knows of each place, and the state of both sides.
use Rattle.std.specs.Prelude.{◌≡◌, ℕ, Bool, true, false}
use Rattle.std.proofs.Math.Option.{Option}

-- where a label comes from: the side's own start, or a road from a place
pub data Origin : Type 0 where
  Start : Origin
  From : ℕ → Origin

pub data Label (K : Type 0) : Type 0 where
  Blank : Label K
  Reached : K → Origin → Label K
  Settled : K → Origin → Label K

-- the label is there, reached or settled, at cost c; and each of the two alone
abbrev pub Has : {K : Type 0} → Label K → K → Type 0
Has Blank c = ⊥
Has (Reached d o) c = d ≡ c
Has (Settled d o) c = d ≡ c

abbrev pub IsReached : {K : Type 0} → Label K → K → Type 0
IsReached Blank c = ⊥
IsReached (Reached d o) c = d ≡ c
IsReached (Settled d o) c = ⊥

abbrev pub IsSettled : {K : Type 0} → Label K → K → Type 0
IsSettled Blank c = ⊥
IsSettled (Reached d o) c = ⊥
IsSettled (Settled d o) c = d ≡ c

-- one side: labels, which settled places were expanded, and the gate cost once it is known
pub record Side (K : Type 0) : Type 0 where
  pub label : ℕ → Label K
  pub expanded : ℕ → Bool
  pub gate : Option K

abbrev pub Expanded : {K : Type 0} → Side K → ℕ → K → Type 0
Expanded σ u c = IsSettled (σ.label u) c × (σ.expanded u ≡ true)

abbrev pub Pruned : {K : Type 0} → Side K → ℕ → K → Type 0
Pruned σ u c = IsSettled (σ.label u) c × (σ.expanded u ≡ false)

pub record State (K : Type 0) : Type 0 where
  pub fore : Side K
  pub back : Side K
  pub best : K
  pub upper : K
  pub meet : ℕ

-- the state as the other side sees it
abbrev pub swap : {K : Type 0} → State K → State K
swap x = record { fore = x.back; back = x.fore; best = x.best; upper = x.upper; meet = x.meet }
