-- The world that a search is asked about, and what its answer is there.
use Rattle.std.specs.Prelude.{◌≡◌, ℕ, true, length}
use Rattle.std.proofs.Math.Option.{some}
use Rattle.routes.specs.Costs.{Costs}
use Rattle.routes.specs.Walks.{Roads, Way}
use Rattle.routes.specs.Worlds.{World}
use Rattle.routes.specs.Invariants.{Least}
use Rattle.routes.specs.Promise.{NoneTwice}
use Rattle.routes.specs.Routes.{Course}
use Rattle.routes.specs.Scales.{Scale, ops}
use Rattle.routes.specs.Search.{Given, Half, Both, search_best, route}

module _ (C : Costs) where
  abbrev pub world : Given C.Cost → Roads C → World C
  world G B = record
      { Edge = λ u v p. G.price u v ≡ some p; Base = B; Border = λ z. G.border z ≡ true; district = G.district; entry = G.entry; size = G.size }

  -- a pair that may be used is the two ends of a walk whose cost stands for the entry
  abbrev pub Paired : Given C.Cost → Type 0
  Paired G = (i j a b : ℕ) → G.pair i j ≡ some (a, b) → Way C (λ u v p. G.price u v ≡ some p) a b (G.entry i j)

-- the lists have an element for each place
pub record Sized {K : Type 0} (n : ℕ) (h : Half K) : Type 0 where
  pub labels : length h.labels ≡ n
  pub expands : length h.expands ≡ n

pub record Fit {K : Type 0} (n : ℕ) (x : Both K) : Type 0 where
  pub fore : Sized n x.fore
  pub back : Sized n x.back

-- a road from u to v at price p
abbrev pub Road : (C : Costs) → Given C.Cost → ℕ → ℕ → C.Cost → Type 0
Road C G u v p = G.price u v ≡ some p

module _ (C : Costs) (S : Scale C) where
  open C use {Cost, ◌≼◌, blocked}

  infix 40 ◌≼◌
  -- best is the least cost of a walk, and blocked exactly if there is none;
  -- the route given is a walk whose cost stands for best, and it meets no place twice
  pub record Answered (G : Given Cost) (s t : ℕ) : Type 0 where
    pub least : Least C (Road C G) s t (search_best (ops C S) G s t).best
    pub way : (blocked ≼ (search_best (ops C S) G s t).best → ⊥) → Course C (Road C G) s t (route G.size (search_best (ops C S) G s t)) (search_best (ops C S) G s t).best
    pub no_twice : (blocked ≼ (search_best (ops C S) G s t).best → ⊥) → NoneTwice (route G.size (search_best (ops C S) G s t))
