-- What every turn of the search keeps, and what the stop says. One-sided facts are written over a
-- road relation E, one or several starts, and a goal t; the other side has them over `Back E`, t and s.
use Rattle.std.specs.Prelude.{◌≡◌, ℕ, ◌⊎◌}
use Rattle.routes.specs.Costs.{Costs, Priced}
use Rattle.routes.specs.Walks.{Roads, Back, Walk, Way, WayFrom, At}
use Rattle.routes.specs.States.{Side, State, Has, IsReached, Expanded, Pruned}

module _ (C : Costs) where
  open C use {Cost, ◌≼◌, ◌⊕◌, free, blocked}

  infix 40 ◌≼◌
  infixl 65 ◌⊕◌
  -- one side: labels are costs of walks and sums of few prices, and each road out of an expanded place is relaxed
  pub record Grown (E : Roads C) (starts : ℕ → Type 0) (σ : Side Cost) : Type 0 where
    pub sound : (v : ℕ) (c : Cost) → Has (σ.label v) c → WayFrom C E starts v c
    pub priced : (v : ℕ) (c : Cost) → Has (σ.label v) c → Priced C 1024 c
    pub relaxed : (u v : ℕ) (c p : Cost) → Expanded σ u c → E u v p → (d : Cost) × Has (σ.label v) d × (d ≼ c ⊕ p)
    pub begun : (a : ℕ) → starts a → (d : Cost) × Has (σ.label a) d × (d ≼ free)

  -- what was pruned lies on no walk to t as cheap as the upper bound
  pub record Cut (E : Roads C) (t : ℕ) (σ : Side Cost) (upper : Cost) : Type 0 where
    pub dear : (x : ℕ) (c q : Cost) → Pruned σ x c → Walk C E x t q → c ⊕ q ≼ upper → ⊥

  -- best is at most what the expanded places of both sides join to
  pub record Met (E : Roads C) (s t : ℕ) (σ τ : Side Cost) (best : Cost) : Type 0 where
    pub across : (u v : ℕ) (c p d : Cost) → Expanded σ u c → E u v p → Expanded τ v d → best ≼ (c ⊕ p) ⊕ d
    pub at_goal : (u : ℕ) (c p : Cost) → Expanded σ u c → E u t p → best ≼ c ⊕ p
    pub at_start : (v : ℕ) (d p : Cost) → Expanded τ v d → E s v p → best ≼ d ⊕ p
    pub at_once : s ≡ t → best ≼ free

  -- no two reached places have a sum below best: a side with none reached, or least + least not below best
  abbrev pub Stop : (σ τ : Side Cost) (best : Cost) → Type 0
  Stop σ τ best = (x y : ℕ) (c d : Cost) → IsReached (σ.label x) c → IsReached (τ.label y) d → best ≼ c ⊕ d

  -- best is the cost of a way that both sides know, or blocked
  abbrev pub Attained : (σ τ : Side Cost) (meet : ℕ) (best : Cost) → Type 0
  Attained σ τ meet best = (blocked ≼ best) ⊎ ((c : Cost) × (d : Cost) × Has (σ.label meet) c × Has (τ.label meet) d × (c ⊕ d ≼ best))

  -- the upper bound is best, or the cost of a walk
  abbrev pub Covered : (E : Roads C) (s t : ℕ) (best upper : Cost) → Type 0
  Covered E s t best upper = (best ≼ upper) ⊎ Way C E s t upper

  -- all that the answer rests on
  pub record Standing (E : Roads C) (s t : ℕ) (x : State Cost) : Type 0 where
    pub fore : Grown E (At s) x.fore
    pub back : Grown (Back C E) (At t) x.back
    pub cut_fore : Cut E t x.fore x.upper
    pub cut_back : Cut (Back C E) s x.back x.upper
    pub met : Met E s t x.fore x.back x.best
    pub attained : Attained x.fore x.back x.meet x.best
    pub covered : Covered E s t x.best x.upper

  abbrev pub Stopped : State Cost → Type 0
  Stopped x = Stop x.fore x.back x.best

  -- each road has a price
  abbrev pub AllPriced : Roads C → Type 0
  AllPriced E = (u v : ℕ) (p : Cost) → E u v p → Priced C 1 p

  -- what best is at the stop
  pub record Least (E : Roads C) (s t : ℕ) (best : Cost) : Type 0 where
    pub lower : (w : Cost) → Walk C E s t w → best ≼ w
    pub open_way : (w : Cost) → Walk C E s t w → blocked ≼ best → ⊥
    pub no_way : ((w : Cost) → Walk C E s t w → ⊥) → blocked ≼ best
    pub route : (blocked ≼ best → ⊥) → Way C E s t best
