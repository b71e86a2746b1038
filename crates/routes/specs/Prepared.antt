-- What a prepared row of the district table says of the base map.
use Rattle.std.specs.Prelude.{◌≡◌, ℕ, ◌<◌, ◌≤◌, Bool, ◌⊎◌, List, length, ◌≢◌}
use Rattle.std.proofs.Math.Option.{Option as Maybe, some, none}
use Rattle.map.specs.Model.{MapModel, Inhabits}
use Rattle.measure.specs.Costs.{Figures, total, AtMost}
use Rattle.routes.specs.Promise.{Route}

-- The place p is the lowest of the district i.
pub record LowestOf (m : MapModel) (i p : ℕ) : Type 0 where
  pub inhabits : Inhabits m i p
  pub lowest : (a : ℕ) → Inhabits m i a → p ≤ a

module _ {K T : Type 0} (thing : K → T) (leq : T → T → Bool) (plus : K → K → K) (zero blocked : K) (price : ℕ → ℕ → K) where
  -- The cost stands for a sum of what at most so many roads cost.
  pub record SumOfRoads (most : ℕ) (c : K) : Type 0 where
    pub roads : List Figures
    pub few : length roads ≤ most
    pub sum : thing c ≡ thing (total plus zero price roads)

  module _ (base : MapModel) where
    -- A route from a place of the district i to one of the district j.
    pub record Crosses (i j a b : ℕ) (places : List ℕ) (c : K) : Type 0 where
      pub from : Inhabits base i a
      pub to : Inhabits base j b
      pub route : Route plus zero price base a b places c

    -- A pair of places, one of the district i and one of the district j, and a route that joins them at the cost c.
    pub record Joined (i j a b : ℕ) (c : K) : Type 0 where
      pub places : List ℕ
      pub sum : K
      pub crosses : Crosses i j a b places sum
      pub costs : thing sum ≡ thing c

    -- The row of the district i, an entry and a pair of places for each district j: the entry is the least cost of all
    -- routes between places of the two, and blocked if there is none.
    pub record RowHolds (i : ℕ) (entry : ℕ → K) (pair : ℕ → Maybe (ℕ × ℕ)) : Type 0 where
      -- No route between the districts costs less than the entry.
      pub least : (j a b : ℕ) (l : List ℕ) (w : K) → Crosses i j a b l w → AtMost thing leq (entry j) w
      -- Where there is a route, the entry is not blocked.
      pub linked : (j a b : ℕ) (l : List ℕ) (w : K) → Crosses i j a b l w → thing (entry j) ≢ thing blocked
      -- Where there is none, it is blocked.
      pub severed : (j : ℕ) → j < base.districts → ((a b : ℕ) (l : List ℕ) (w : K) → Crosses i j a b l w → ⊥) → thing (entry j) ≡ thing blocked
      -- It is blocked or the cost of at most 1,024 roads.
      pub few : (j : ℕ) → j < base.districts → (thing (entry j) ≡ thing blocked) ⊎ SumOfRoads 1024 (entry j)
      -- A pair is joined at the cost of the entry.
      pub paired : (j a b : ℕ) → pair j ≡ some (a, b) → Joined i j a b (entry j)
      -- There is no pair exactly where the entry is blocked.
      pub unpaired : (j : ℕ) → j < base.districts → pair j ≡ none → thing (entry j) ≡ thing blocked
      pub blocked_unpaired : (j : ℕ) → j < base.districts → thing (entry j) ≡ thing blocked → pair j ≡ none
      -- From the district to itself: nothing, at its lowest place.
      pub own_entry : thing (entry i) ≡ thing zero
      pub own_pair : (p : ℕ) → LowestOf base i p → pair i ≡ some (p, p)
