-- What settling the least of a row promises.
use Rattle.std.specs.Prelude.{◌≡◌, ℕ, ◌<◌, Bool, true, false, List, length, Some, None, Option, slice_set}
use Rattle.fringe.specs.declared.place.Place.{Place}
use Rattle.routes.specs.declared.labels.Origin.{Origin}
use Rattle.routes.specs.declared.labels.Label.{Label}
use Rattle.routes.specs.declared.labels.Label.TheVariants.{Reached, Settled}
use Rattle.halves.specs.Labels.{spot}
use Rattle.routes.specs.Parts.{waiting}

module _ {C T : Type 0} (thing : C → T) (leq : T → T → Bool) where
  -- The place p, reached at the least cost c, and of equals the lowest, is settled with its cost and origin.
  pub record Settles (before after : List (Label C)) (p : ℕ) (c : C) : Type 0 where
    pub known : p < length before
    pub origin : Origin
    pub was : spot before p ≡ Reached c origin
    pub is : after ≡ slice_set before p (Settled c origin)
    pub least : (v : ℕ) (d : C) → waiting (spot before v) ≡ Some d → leq (thing c) (thing d) ≡ true
    pub lowest : (v : ℕ) (d : C) → v < p → waiting (spot before v) ≡ Some d → leq (thing d) (thing c) ≡ false

  -- Nothing is reached, and nothing changes.
  pub record Idle (before after : List (Label C)) : Type 0 where
    pub none : (v : ℕ) → waiting (spot before v) ≡ None
    pub same : after ≡ before

  -- What is settled, by the answer.
  abbrev pub Settling : List (Label C) → List (Label C) → Option (Place × C) → Type 0
  Settling before after None = Idle before after
  Settling before after (Some r) = Settles before after r.0.0 r.1
