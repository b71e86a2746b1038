-- A tournament between the places below n. Node n + p is the leaf of the place p, and the nodes 1 to n - 1 are matches:
-- the match at node i is between those who come out of the nodes 2 i and 2 i + 1. Node 1 is the root.
use Rattle.std.specs.Prelude.{◌≡◌, ℕ, ◌+◌, ◌-◌, ◌*◌, ◌<◌, min, Bool, true, cond, not, List, length, Some, None, Option, ◌==◌, ◌≢◌, nat_lt, slice_index_or}
use Rattle.fringe.specs.declared.place.Place.{Place}
use Rattle.fringe.specs.Entries.{ahead}
use Rattle.fringe.specs.Fringes.{Meaning}

-- How many places fit over two slices of these lengths.
abbrev pub capacity_of : ℕ → ℕ → ℕ
capacity_of costs winners = min (min costs winners) 1024

-- What a row of costs means: it takes the places that it has a cell for, and holds at each what stands there.
abbrev pub meaning_of : {C : Type 0} → List (Option C) → Meaning C
meaning_of costs = record { capacity = length costs; held = λ q. slice_index_or costs q None }

-- Who comes out of the leaf of the place p: the place with its cost, if it holds one.
abbrev pub entrant : {C : Type 0} → ℕ → Option C → Option (Place × C)
entrant p None = None
entrant p (Some c) = Some (record { 0 = p }, c)

-- Who comes out of node k: the winner that is kept of a match, or the entrant of a leaf.
abbrev pub out_of : {C : Type 0} → List (Option C) → List (Option (Place × C)) → ℕ → Option (Place × C)
out_of costs winners k =
    cond (nat_lt k (length costs)) (slice_index_or winners k None) (entrant (k - length costs) (slice_index_or costs (k - length costs) None))

-- Who wins the tournament: who comes out of the root, if there is a place to play for.
abbrev pub champion_of : {C : Type 0} → List (Option C) → List (Option (Place × C)) → Option (Place × C)
champion_of costs winners = cond (length costs == 0) None (out_of costs winners 1)

module _ {C T : Type 0} (thing : C → T) (leq : T → T → Bool) where
  -- The winner of a match, for which either side may be missing.
  abbrev pub winner_of : Option (Place × C) → Option (Place × C) → Option (Place × C)
  winner_of None b = b
  winner_of (Some a) None = Some a
  winner_of (Some a) (Some b) = cond (ahead thing leq a b) (Some a) (Some b)

  -- Who wins the match at node i.
  abbrev pub match_at : List (Option C) → List (Option (Place × C)) → ℕ → Option (Place × C)
  match_at costs winners i = winner_of (out_of costs winners (2 * i)) (out_of costs winners (2 * i + 1))

  -- Whether the cost c is less than what is held, if anything is.
  abbrev pub cheaper : C → Option C → Bool
  cheaper c None = true
  cheaper c (Some d) = not (leq (thing d) (thing c))

  -- The match at node i was played. Here and below, `out` says who comes out of each node.
  abbrev pub Played : (ℕ → Option (Place × C)) → ℕ → Type 0
  Played out i = out i ≡ winner_of (out (2 * i)) (out (2 * i + 1))

  -- Every match between n places was played.
  abbrev pub Decided : ℕ → (ℕ → Option (Place × C)) → Type 0
  Decided n out = (i : ℕ) → 0 < i → i < n → Played out i

  -- Every match between n places was played, but perhaps for the one at node j.
  abbrev pub DecidedBut : ℕ → ℕ → (ℕ → Option (Place × C)) → Type 0
  DecidedBut j n out = (i : ℕ) → 0 < i → i < n → (i ≢ j) → Played out i

  -- The row of winners is what the tournament over the row of costs comes to.
  abbrev pub InOrder : List (Option C) → List (Option (Place × C)) → Type 0
  InOrder costs winners = Decided (length costs) (out_of costs winners)

  -- The same, but perhaps for the match at node j.
  abbrev pub InOrderBut : ℕ → List (Option C) → List (Option (Place × C)) → Type 0
  InOrderBut j costs winners = DecidedBut j (length costs) (out_of costs winners)
