-- What reaching a place as a start promises.
use Rattle.std.specs.Prelude.{◌≡◌, ℕ, Bool, List, slice_set}
use Rattle.fringe.specs.Fringes.{Meaning}
use Rattle.routes.specs.declared.labels.Origin.TheVariants.{Start}
use Rattle.routes.specs.declared.labels.Label.{Label}
use Rattle.routes.specs.declared.labels.Label.TheVariants.{Blank, Reached}
use Rattle.halves.specs.Labels.{spot}
use Rattle.halves.specs.Agreement.{Agree}

-- The place v was reached at c as a start. Where its label was blank and the fringe agreed, the fringe agrees.
pub record ReachedAt {C T F : Type 0} (thing : C → T) (leq : T → T → Bool) (well : F → Type 0) (meaning : F → Meaning C)
    (before : List (Label C)) (f : F) (v : ℕ) (c : C) (after : List (Label C)) (f' : F) : Type 0 where
  pub labels : after ≡ slice_set before v (Reached c Start)
  pub agree : spot before v ≡ Blank → Agree thing leq (well f) (meaning f) before → Agree thing leq (well f') (meaning f') after
