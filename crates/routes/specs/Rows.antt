-- Relaxing as code does it: along the roads out of u, one by one. `proofs/Rows.antt` shows that it comes to the same.
use Rattle.std.specs.Prelude.{ℕ, true, false, List, [], ◌∷◌, ◌==◌, nat_le, slice_set}
use Rattle.std.proofs.Math.Option.{Option, some, none}
use Rattle.routes.specs.States.{Start, Label}
use Rattle.routes.specs.Search.{Ops, Found, label_at, cost_of, relaxed}

-- the roads out of one place: far ends and prices
abbrev pub Row : Type 0 → Type 0
Row K = List (ℕ × K)

module _ {K : Type 0} where
  abbrev pub look : Row K → ℕ → Option K
  look [] v = none
  look (r ∷ row) v = elim (r.0 == v) [ true ↦ some r.1 | false ↦ look row v ]

  abbrev pub ends : Row K → List ℕ
  ends [] = []
  ends (r ∷ row) = r.0 ∷ ends row

module _ {K : Type 0} (O : Ops K) where
  open O use {◌⊕◌, leq}

  infixl 65 ◌⊕◌
  abbrev pub relax_row : Row K → ℕ → K → List (Label K) → List (Label K)
  relax_row [] u c ls = ls
  relax_row (r ∷ row) u c ls = relax_row row u c (slice_set ls r.0 (relaxed O (some r.1) u c (label_at ls r.0)))

  -- the cheaper of two, of equals the lower place
  abbrev pub prefer : Found K → Found K → Found K
  prefer a b = elim (leq a.cost b.cost) [
    | false ↦ b
    | true ↦ elim (leq b.cost a.cost) [ false ↦ a | true ↦ elim (nat_le a.place b.place) [ true ↦ a | false ↦ b ] ]
  ]

  abbrev pub preferred : Option K → Option K → ℕ → Option (Found K) → Option (Found K)
  preferred none b v o = o
  preferred (some a) none v o = o
  preferred (some a) (some b) v none = some (record { place = v; cost = a ⊕ b; origin = Start })
  preferred (some a) (some b) v (some f) = some (prefer f (record { place = v; cost = a ⊕ b; origin = Start }))

  -- the best so far goes along
  abbrev pub sum_row : Row K → List (Label K) → List (Label K) → Option (Found K) → Option (Found K)
  sum_row [] l m o = o
  sum_row (r ∷ row) l m o = sum_row row l m (preferred (cost_of (label_at l r.0)) (cost_of (label_at m r.0)) r.0 o)
