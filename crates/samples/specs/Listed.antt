-- The cases.
use Rattle.std.proofs.Math.Option.{some, none}
use Rattle.std.specs.Prelude.{ℕ, List, [], ◌∷◌, Some, None}
use Rattle.map.specs.declared.numbers.RoadId.{RoadId}
use Rattle.layers.specs.declared.calls.ClosureCall.TheVariants.{Close as CloseRoad}
use Rattle.histories.specs.declared.calls.Call.{Call}
use Rattle.histories.specs.declared.calls.Call.TheVariants.{Close, Slow}
use Rattle.samples.specs.Maps.{map_of, mine, grid, funnel, detour, slope, chain, ring, passage}
use Rattle.samples.specs.Cases.{Expected, Case, InTime, InSteepness, Closes, TimeEntry, SteepEntry, prepares}

-- The answer costs so much along that route, after so many places expanded and pruned.
abbrev pub goes : (cost : ℕ) (route : List ℕ) (expanded pruned : ℕ) → Expected
goes cost route expanded pruned = record { found = Some (cost, route); counts = some (expanded, pruned) }

-- There is no way, after so many places expanded and pruned.
abbrev pub no_way : (expanded pruned : ℕ) → Expected
no_way expanded pruned = record { found = None; counts = some (expanded, pruned) }

-- The answer costs so much along that route, however many places were expanded and pruned.
abbrev pub goes_anyhow : (cost : ℕ) (route : List ℕ) → Expected
goes_anyhow cost route = record { found = Some (cost, route); counts = none }

-- The road of a number.
abbrev pub numbered : ℕ → RoadId
numbered r = record { 0 = r }

-- All rows of the mine are prepared, and nothing is closed or slowed.
abbrev pub ready : List Call
ready = prepares 3

-- Then the road 4 is closed.
abbrev pub closed_4 : List Call
closed_4 = Close (numbered 4) ∷ ready

-- Or the road 5 is slowed.
abbrev pub slowed_5 : ℕ → List Call
slowed_5 f = Slow (numbered 5) f ∷ ready

-- Of the ring all rows are prepared, and its first road is slowed.
abbrev pub ring_slowed : List Call
ring_slowed = Slow (numbered 0) 9 ∷ prepares 4

-- The cases, each with what it is expected to answer.
unfoldable pub cases : List Case
cases =
    InTime (map_of mine) ready 0 4 (goes 43 (0 ∷ 1 ∷ 2 ∷ 3 ∷ 4 ∷ []) 5 0)
    ∷ InSteepness (map_of mine) ready 0 4 (goes 10 (0 ∷ 3 ∷ 4 ∷ []) 2 0)
    ∷ InTime (map_of mine) ready 0 3 (goes 35 (0 ∷ 1 ∷ 2 ∷ 3 ∷ []) 3 1)
    ∷ Closes (map_of mine) ready (CloseRoad (numbered 4)) none
    ∷ InTime (map_of mine) closed_4 0 4 (goes 53 (0 ∷ 3 ∷ 4 ∷ []) 5 0)
    ∷ Closes (map_of mine) closed_4 (CloseRoad (numbered 4)) (some 12)
    ∷ InTime (map_of mine) closed_4 4 0 (no_way 1 0)
    ∷ TimeEntry (map_of mine) 0 1 (some (20, (1, 2)))
    ∷ TimeEntry (map_of mine) 2 1 (some (39, (5, 2)))
    ∷ TimeEntry (map_of mine) 1 0 none
    ∷ TimeEntry (map_of mine) 1 1 (some (0, (2, 2)))
    ∷ SteepEntry (map_of mine) 0 1 (some (10, (0, 3)))
    ∷ SteepEntry (map_of mine) 2 1 (some (20, (5, 3)))
    ∷ SteepEntry (map_of mine) 1 0 none
    ∷ InTime (map_of mine) (slowed_5 20) 0 4 (goes 53 (0 ∷ 3 ∷ 4 ∷ []) 5 0)
    ∷ InTime (map_of mine) (slowed_5 3) 0 4 (goes 43 (0 ∷ 1 ∷ 2 ∷ 3 ∷ 4 ∷ []) 5 0)
    ∷ InTime grid (prepares 2) 0 5 (goes 21 (0 ∷ 1 ∷ 2 ∷ 5 ∷ []) 5 0)
    ∷ InTime (map_of funnel) (prepares 3) 1 2 (no_way 1 1)
    ∷ InTime (map_of detour) (prepares 2) 2 1 (goes 2 (2 ∷ 1 ∷ []) 2 0)
    ∷ InSteepness (map_of slope) (prepares 3) 1 2 (goes 2 (1 ∷ 4 ∷ 0 ∷ 2 ∷ []) 4 0)
    ∷ InTime (map_of mine) ready 2 2 (goes 0 (2 ∷ []) 0 0)
    ∷ InSteepness (map_of mine) ready 2 2 (goes 0 (2 ∷ []) 0 0)
    ∷ InTime (map_of chain) (prepares 5) 0 6 (goes 24 (0 ∷ 1 ∷ 2 ∷ 3 ∷ 4 ∷ 5 ∷ 6 ∷ []) 6 1)
    ∷ InTime (map_of ring) ring_slowed 0 3 (goes 11 (0 ∷ 1 ∷ 2 ∷ 3 ∷ []) 3 0)
    ∷ InTime (map_of passage) (prepares 3) 3 2 (goes 5 (3 ∷ 0 ∷ 2 ∷ []) 2 0)
    ∷ InTime (map_of mine) [] 0 4 (goes_anyhow 43 (0 ∷ 1 ∷ 2 ∷ 3 ∷ 4 ∷ []))
    ∷ []
