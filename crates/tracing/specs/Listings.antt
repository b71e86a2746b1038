-- Lists of places with a route in front.
use Rattle.std.specs.Prelude.{◌≡◌, ℕ, ◌≤◌, List, [], ◌∷◌, length, take, drop}
use Rattle.fringe.specs.declared.place.Place.{Place}

-- The places of a list by their numbers.
abbrev pub numbers : List Place → List ℕ
numbers [] = []
numbers (p ∷ list) = p.0 ∷ numbers list

-- The list holds the route first, `count` places, and the rest of it is as before.
pub record Listed (route : List ℕ) (before after : List Place) (count : ℕ) : Type 0 where
  pub count_is : count ≡ length route
  pub first : numbers (take count after) ≡ route
  pub rest : drop count after ≡ drop count before

-- There are at most n places, and the list has room for them.
pub record Short (n room : ℕ) (places : List ℕ) : Type 0 where
  pub few : length places ≤ n
  pub fits : length places ≤ room
