-- How the row of a district is filled from a spread over the base map that began at all its places.
use Rattle.std.specs.Prelude.{◌≡◌, ℕ, ◌<◌, ◌≢◌}
use Rattle.std.proofs.Math.Option.{Option as Maybe, some, none}
use Rattle.map.specs.Model.{MapModel}
use Rattle.routes.specs.States.{Side, IsSettled}
use Rattle.routes.specs.Spreads.{Stems, Spread}
use Rattle.routes.specs.Prepared.{LowestOf}

module _ {K T : Type 0} (thing : K → T) (zero blocked : K) where
  -- The first settled place v of a district gives the entry by its cost, and the pair by where its chain of origins begins.
  pub record FilledBy (side : Side K) (v : ℕ) (entry : K) (pair : Maybe (ℕ × ℕ)) : Type 0 where
    pub cost : K
    pub settled : IsSettled (side.label v) cost
    pub entry_is : thing entry ≡ thing cost
    pub root : ℕ
    pub stems : Stems side v root
    pub pair_is : pair ≡ some (root, v)

  -- The row of the district i as the end of the spread x fills it.
  pub record Filled (base : MapModel) (i : ℕ) (x : Spread K) (entry : ℕ → K) (pair : ℕ → Maybe (ℕ × ℕ)) : Type 0 where
    -- For the district itself: nothing, and its lowest place twice.
    pub lowest : ℕ
    pub is_lowest : LowestOf base i lowest
    pub own_entry : thing (entry i) ≡ thing zero
    pub own_pair : pair i ≡ some (lowest, lowest)
    -- For another district: by its first settled place, or blocked and no pair if it has none.
    pub first : (j v : ℕ) → j < base.districts → (j ≢ i) → x.first j ≡ some v → FilledBy x.side v (entry j) (pair j)
    pub absent_entry : (j : ℕ) → j < base.districts → (j ≢ i) → x.first j ≡ none → thing (entry j) ≡ thing blocked
    pub absent_pair : (j : ℕ) → (j ≢ i) → x.first j ≡ none → pair j ≡ none
