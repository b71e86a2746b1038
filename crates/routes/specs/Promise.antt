-- What a route is, what it costs, and what is promised of the answer to a question. This is stated over the meaning of a
-- map and over costs, and not over the steps of any search.
use Rattle.std.specs.Prelude.{◌≡◌, ℕ, ◌<◌, Bool, true, ◌⊎◌, List, [], ◌∷◌, Some, None, Option}
use Rattle.map.specs.declared.roads.Road.{Road}
use Rattle.map.specs.declared.roads.Mark.TheVariants.{Open}
use Rattle.map.specs.Model.{MapModel}

-- The place p stands in the list.
abbrev pub Among : ℕ → List ℕ → Type 0
Among p [] = ⊥
Among p (q ∷ l) = (p ≡ q) ⊎ Among p l

-- No place stands in the list twice.
abbrev pub NoneTwice : List ℕ → Type 0
NoneTwice [] = Unit {0}
NoneTwice (p ∷ l) = (Among p l → ⊥) × NoneTwice l

-- The sum and the zero of a measure, and its price for a road by seconds and steepness.
module _ {K : Type 0} (plus : K → K → K) (zero : K) (price : ℕ → ℕ → K) (m : MapModel) where
  -- An open road of the map leads from the place u to the place v and costs c.
  pub record OpenRoad (u v : ℕ) (c : K) : Type 0 where
    pub number : ℕ
    pub road : Road
    pub there : m.road number ≡ Some road
    pub from : road.start.0 ≡ u
    pub to : road.end.0 ≡ v
    pub is_open : road.mark ≡ Open
    pub costs : price road.seconds road.steepness ≡ c

  -- A route from a to b: its places in order, each joined to the next by an open road, and the sum of what these cost.
  pub data Route : ℕ → ℕ → List ℕ → K → Type 0 where
    stay : {a : ℕ} → a < m.places → Route a a (a ∷ []) zero
    go : {a b d : ℕ} {l : List ℕ} {c w : K} → OpenRoad a b c → Route b d l w → Route a d (a ∷ l) (plus c w)

  -- What costs stand for, and how that compares.
  module _ {T : Type 0} (thing : K → T) (leq : T → T → Bool) where
    -- The places are a route from s to t that meets no place twice and costs c, and no route from s to t costs less.
    pub record LeastRoute (s t : ℕ) (c : K) (places : List ℕ) : Type 0 where
      pub sum : K
      pub route : Route s t places sum
      pub costs : thing sum ≡ thing c
      pub none_twice : NoneTwice places
      pub least : (l : List ℕ) (w : K) → Route s t l w → leq (thing c) (thing w) ≡ true

    -- The answer to a question from s to t: a least route with its cost, or nothing, exactly where there is no route.
    abbrev pub LeastCost : ℕ → ℕ → Option (K × List ℕ) → Type 0
    LeastCost s t None = (l : List ℕ) (w : K) → Route s t l w → ⊥
    LeastCost s t (Some r) = LeastRoute s t r.0 r.1
