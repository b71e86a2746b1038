-- Turns of a spread, one by one.
use Rattle.std.proofs.Common.{◌≡◌, ℕ, ◌+◌, ◌<◌, Bool, List, length, Option, sym, subst, subst₂, arith}
use Rattle.fringe.specs.declared.place.Place.{Place}
use Rattle.map.specs.Model.{MapModel, leaving}
use Rattle.routes.specs.declared.labels.Label.{Label}
use Rattle.halves.specs.Settling.{Settles, Idle}
use Rattle.halves.specs.Expansions.{driven_along}
use Rattle.preparing.specs.Firsts.{noted}
use Rattle.preparing.specs.Runs.{Runs, turned, Ran}

module _ {C T : Type 0} (thing : C → T) (leq : T → T → Bool) (plus : C → C → C) (price : ℕ → ℕ → C) (m : MapModel) (labels₀ : List (Label C)) (firsts₀ : List (Option Place)) where
  abbrev After : ℕ → List (Label C) → List (Option Place) → Type 0
  After = Runs thing leq plus price m labels₀ firsts₀

  pub one_more : {n : ℕ} {before mid after : List (Label C)} {firsts firsts' : List (Option Place)} (p : Place) (c : C) → After n before firsts → Settles thing leq before mid p.0 c →
      after ≡ driven_along thing leq plus price m c (leaving m p.0) mid → firsts' ≡ noted m p firsts → After (n + 1) after firsts'
  one_more {n} p c r s e e' = subst₂ (After (n + 1)) (sym e) (sym e') (turned p c r s)

  -- nothing is reached
  pub ran_out : {n : ℕ} {labels labels' : List (Label C)} {firsts : List (Option Place)} → After n labels firsts → Idle thing leq labels labels' → n < length labels₀ →
      Ran thing leq plus price m labels₀ firsts₀ n labels' firsts
  ran_out {n} {labels'} {firsts} r i l = subst (λ z. Ran thing leq plus price m labels₀ firsts₀ n z firsts) (sym i.same) (record { runs = r; few = omega arith; spent = λ _. i.none })

  -- as many turns as labels
  pub ran_full : {n k : ℕ} {labels : List (Label C)} {firsts : List (Option Place)} → After n labels firsts → n ≡ k → k ≡ length labels₀ → Ran thing leq plus price m labels₀ firsts₀ k labels firsts
  ran_full {labels} {firsts} r e f = subst (λ z. Ran thing leq plus price m labels₀ firsts₀ z labels firsts) e (record { runs = r; few = omega arith; spent = λ l. absurd (omega arith) })
