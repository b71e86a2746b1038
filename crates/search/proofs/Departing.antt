-- The state before the first turn.
use Rattle.std.proofs.Common.{◌≡◌, ℕ, Bool, true, false, cond, eqb, List, set, replicate, sym, refl, ap, ◌∙◌, ap₂}
use Rattle.fringe.specs.declared.place.Place.{Place}
use Rattle.routes.specs.declared.labels.Label.{Label}
use Rattle.routes.specs.declared.labels.Label.TheVariants.{Blank, Reached}
use Rattle.routes.specs.declared.labels.Origin.TheVariants.{Start}
use Rattle.routes.specs.States as states
use Rattle.routes.specs.Labels.{labels_view}
use Rattle.routes.specs.Search.{Ops, first}
use Rattle.routes.proofs.LabelViews.{view_set, view_blank}
use Rattle.turns.specs.Findings.{Shown}
use Rattle.search.specs.Outset.{outset}

module _ {K : Type 0} (O : Ops K) (n : ℕ) (f g : ℕ → ℕ) (start goal : Place) where
  open O use {free, blocked}

  -- the labels of a side
  row_shown : (f : ℕ → ℕ) (s : ℕ) (row : List (Label K)) → row ≡ set (replicate n Blank) s (Reached free Start) → set (replicate n states.Blank) s (states.Reached free states.Start) ≡ labels_view f row
  row_shown f s row e = ap (λ l. set l s (states.Reached free states.Start)) (sym (view_blank f n)) ∙ sym (view_set f (replicate n Blank) s (Reached free Start)) ∙ ap (labels_view f) (sym e)

  cost_shown : (b : Bool) → elim b as (λ _. K) [ true ↦ free | false ↦ blocked ] ≡ cond b free blocked
  cost_shown true = refl
  cost_shown false = refl

  pub first_shown : (fore back : List (Label K)) → fore ≡ set (replicate n Blank) start.0 (Reached free Start) → back ≡ set (replicate n Blank) goal.0 (Reached free Start) →
      Shown f g fore back (outset free blocked start goal) (first O n start.0 goal.0)
  first_shown fore back fore_is back_is = record {
    labels = row_shown f start.0 fore fore_is;
    beside = record {
      gate = refl;
      others = row_shown g goal.0 back back_is;
      other_gate = refl;
      best = cost_shown (eqb start.0 goal.0);
      upper = cost_shown (eqb start.0 goal.0);
      meet = refl;
      expansions = refl;
      prunings = refl;
    };
  }

-- the row that a side begins with
pub begun_row : {K : Type 0} (row : List (Label K)) (k n s : ℕ) (z zero : K) → row ≡ set (replicate k Blank) s (Reached z Start) → k ≡ n → z ≡ zero → row ≡ set (replicate n Blank) s (Reached zero Start)
begun_row row k n s z zero e k_is z_is = e ∙ ap₂ (λ l c. set (replicate l Blank) s (Reached c Start)) k_is z_is
