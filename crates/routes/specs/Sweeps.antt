-- Lists of labels as the side of a spread, where each settled place is expanded.
use Rattle.std.specs.Prelude.{ℕ, zero, suc, Bool, true, false, List, slice_set}
use Rattle.std.proofs.Math.Option.{Option as Maybe, none}
use Rattle.routes.specs.States.{Start, From, Label, Blank, Reached, Settled, Side}
use Rattle.routes.specs.Search.{Ops, Found, label_at, relax}

module _ {K : Type 0} where
  abbrev pub is_settled : Label K → Bool
  is_settled Blank = false
  is_settled (Reached c o) = false
  is_settled (Settled c o) = true

  abbrev pub swept_side : List (Label K) → Side K
  swept_side l = record { label = label_at l; expanded = λ v. is_settled (label_at l v); gate = none }

  -- The place that the chain of origins of v begins at, found in at most n steps.
  abbrev pub root : ℕ → List (Label K) → ℕ → ℕ
  root zero l v = v
  root (suc n) l v = elim (label_at l v) [
    | Blank ↦ v
    | Reached c o ↦ elim o [ Start ↦ v | From u ↦ root n l u ]
    | Settled c o ↦ elim o [ Start ↦ v | From u ↦ root n l u ]
  ]

  -- The nearest place is settled and its roads are relaxed.
  abbrev pub sweep_on : Ops K → (ℕ → Maybe K) → List (Label K) → Found K → List (Label K)
  sweep_on O r l f = relax O r f.place f.cost 0 (slice_set l f.place (Settled f.cost f.origin))
