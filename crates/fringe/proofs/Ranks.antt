-- Entries compare as a total preorder.
use Rattle.std.proofs.Common.{◌≡◌, ◌<◌, Bool, true, false, arith}
use Rattle.std.proofs.lemmas.Bool.Decides.{nat_tests}
use Rattle.fringe.specs.Orders.{TotalOrder}
use Rattle.fringe.specs.declared.place.Place.{Place}
use Rattle.fringe.specs.Entries.{ahead}

pub record Ranked {E : Type 0} (leq : E → E → Bool) : Type 0 where
  pub same : (a : E) → leq a a ≡ true
  pub chain : (a b c : E) → leq a b ≡ true → leq b c ≡ true → leq a c ≡ true
  pub total : (a b : E) → leq a b ≡ false → leq b a ≡ true

pub entries_ranked : {C T : Type 0} (thing : C → T) {leq : T → T → Bool} → TotalOrder leq → Ranked (ahead thing leq)
entries_ranked thing {leq} o = record {
  same = λ a. let t = o.refl_leq (thing a.1) in grind (arith, nat_tests);
  chain = λ a b c p q.
      let t = o.trans_leq (thing a.1) (thing b.1) (thing c.1) in
      let u = o.trans_leq (thing c.1) (thing a.1) (thing b.1) in
      let v = o.trans_leq (thing b.1) (thing c.1) (thing a.1) in
      grind (arith, nat_tests);
  total = λ a b p. let t = o.total_leq (thing a.1) (thing b.1) in grind (arith, nat_tests);
}

-- What it says of the costs of two entries that the one is ahead of the other.
module _ {C T : Type 0} (thing : C → T) (leq : T → T → Bool) (a b : Place × C) (h : ahead thing leq a b ≡ true) where
  pub costs_leq : leq (thing a.1) (thing b.1) ≡ true
  costs_leq = grind (arith, nat_tests)

  pub costs_less : b.0.0 < a.0.0 → leq (thing b.1) (thing a.1) ≡ false
  costs_less l = grind (arith, nat_tests)
