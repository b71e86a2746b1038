-- Walks joined, and turned round.
use Rattle.std.proofs.Common.{ℕ, subst}
use Rattle.routes.specs.Costs.{Costs, Same}
use Rattle.routes.specs.Walks.{Roads, Back, Walk, stay, go, Way, WayFrom, At}
use Rattle.routes.proofs.Sums

module _ (C : Costs) where
  open C use {Cost, ◌≼◌, ◌⊕◌, free, ⊕_assoc, ⊕_comm, free_⊕}

  infix 40 ◌≼◌
  infixl 65 ◌⊕◌
  pub way : {E : Roads C} {a b : ℕ} {c : Cost} → Walk C E a b c → Way C E a b c
  way {c = c} w = (c, w, Sums.same_refl C c)

  -- the same walk at another value for its cost
  pub over : {E : Roads C} {a b : ℕ} {c d : Cost} → Same C c d → Way C E a b c → Way C E a b d
  over e w = (w.0, w.1, Sums.same_on C w.2 e)

  joined : {E : Roads C} {a b d : ℕ} {c e : Cost} → Walk C E a b c → Walk C E b d e → Way C E a d (c ⊕ e)
  joined {e = e} stay w = (e, w, Sums.same_back C (free_⊕ e))
  joined {e = e} (go {p = p} {c = c} r v) w =
      let k = joined v w in
      (p ⊕ k.0, go r k.1, Sums.same_on C (Sums.same_sum C (Sums.same_refl C p) k.2) (Sums.same_back C (⊕_assoc p c e)))

  pub join : {E : Roads C} {a b d : ℕ} {c e : Cost} → Way C E a b c → Way C E b d e → Way C E a d (c ⊕ e)
  join v w = over (Sums.same_sum C v.2 w.2) (joined v.1 w.1)

  pub one : {E : Roads C} {a b : ℕ} {p : Cost} → E a b p → Way C E a b p
  one {p = p} r = (p ⊕ free, go r stay, Sums.⊕_free C p)

  -- the same roads, from the far end
  reversed : {E : Roads C} {a b : ℕ} {c : Cost} → Walk C E a b c → Way C (Back C E) b a c
  reversed stay = way stay
  reversed (go {p = p} {c = c} r w) = over (⊕_comm c p) (join (reversed w) (one r))

  pub turned : {E : Roads C} {a b : ℕ} {c : Cost} → Way C E a b c → Way C (Back C E) b a c
  turned w = over w.2 (reversed w.1)

  -- from the only start
  pub from_one : {E : Roads C} {s v : ℕ} {c : Cost} → WayFrom C E (At s) v c → Way C E s v c
  from_one {E} {s} {v} {c} w = subst (λ a. Way C E a v c) w.1 w.2
