-- Costs that stand for one thing.
use Rattle.std.proofs.Common.{◌≡◌, ℕ, Bool, Some, None, Option, sym, refl, ap, ◌∙◌, ⊎_elim, arith}
use Rattle.std.proofs.lemmas.Bool.{cases_Bool, cond-true, cond-false}
use Rattle.std.specs.Option.{option_map}
use Rattle.fringe.specs.Fringes.{Alike, lowered}

pub never : {A : Type 0} {x : Option A} {a : A} → x ≡ None → x ≡ Some a → ⊥
never n s = let z : ◌≡◌ {A = ℕ} 0 1 = cc in omega arith

pub same_some : {A : Type 0} {x : Option A} {a b : A} → x ≡ Some a → x ≡ Some b → a ≡ b
same_some p q = cc

module _ {C T : Type 0} (thing : C → T) (leq : T → T → Bool) where
  -- what is like a cost is a cost that stands for the same
  pub record Like (x : Option C) (c : C) : Type 0 where
    pub cost : C
    pub is : x ≡ Some cost
    pub stands : thing cost ≡ thing c

  pub like : (x : Option C) (c : C) → Alike thing leq x (Some c) → Like x c
  like None c e = absurd (never refl e)
  like (Some d) c e = record { cost = d; is = refl; stands = same_some refl e }

  pub like_none : (x : Option C) → Alike thing leq x None → x ≡ None
  like_none None e = refl
  like_none (Some d) e = absurd (never e refl)

  pub lowered_like : (c : C) (a b : Option C) → Alike thing leq a b → Alike thing leq (lowered thing leq a c) (lowered thing leq b c)
  lowered_like c None None e = refl
  lowered_like c None (Some b) e = absurd (never refl e)
  lowered_like c (Some a) None e = absurd (never e refl)
  lowered_like c (Some a) (Some b) e =
      let s : thing a ≡ thing b = same_some refl e in
      ⊎_elim
      (λ t. ap (option_map thing) (cond-true (leq (thing a) (thing c)) (Some a) (Some c) t) ∙ e
      ∙ sym (ap (option_map thing) (cond-true (leq (thing b) (thing c)) (Some b) (Some c) (ap (λ x. leq x (thing c)) (sym s) ∙ t))))
      (λ t. ap (option_map thing) (cond-false (leq (thing a) (thing c)) (Some a) (Some c) t)
      ∙ sym (ap (option_map thing) (cond-false (leq (thing b) (thing c)) (Some b) (Some c) (ap (λ x. leq x (thing c)) (sym s) ∙ t))))
      (cases_Bool (leq (thing a) (thing c)))
