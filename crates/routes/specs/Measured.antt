-- The costs of a measure as the laws of the search take them: stored values, compared by what they stand for.
use Rattle.std.specs.Prelude.{◌≡◌, ℕ, ◌≤◌, Bool, true, false, ◌⊎◌, List, length}
use mathlib.Core.Path.{subst}
use Rattle.std.proofs.Common.{inl, inr}
use Rattle.std.proofs.lemmas.Bool.{both_ways}
use Rattle.fringe.specs.Orders.{TotalOrder}
use Rattle.measure.specs.Costs.{Figures, total, AtMost, CostLaws}
use Rattle.routes.specs.Costs.{Costs, EachWay}
use Rattle.routes.specs.Scales.{Scale}

-- An order on what values stand for, and a measure on the values.
module _ {K T : Type 0} (thing : K → T) (leq : T → T → Bool) (order : TotalOrder leq)
    (plus : K → K → K) (nil blocked : K) (price : ℕ → ℕ → K) (code : K → ℕ) (laws : CostLaws thing leq plus nil blocked price code) where
  -- Values that stand for one thing are at most each other, and back.
  pub both_at_most : (a b : K) → thing a ≡ thing b → EachWay (AtMost thing leq) a b
  both_at_most a b e = (
    subst (λ z. leq (thing a) z ≡ true) e (order.refl_leq (thing a)),
    subst (λ z. leq z (thing a) ≡ true) e (order.refl_leq (thing a)),
  )

  pub one_thing : (a b : K) → EachWay (AtMost thing leq) a b → thing a ≡ thing b
  one_thing a b h = order.antisym_leq (thing a) (thing b) h.0 h.1

  pub one_of_both : (a b : K) → AtMost thing leq a b ⊎ AtMost thing leq b a
  one_of_both a b =
      (elim (leq (thing a) (thing b)) as (λ z. leq (thing a) (thing b) ≡ z → AtMost thing leq a b ⊎ AtMost thing leq b a)
      [ true ↦ λ e. inl e | false ↦ λ e. inr (order.total_leq (thing a) (thing b) e) ]) mathlib.Core.Path.refl

  pub few_pass : (roads : List Figures) → length roads ≤ 4096 → AtMost thing leq blocked (total plus nil price roads) → ⊥
  few_pass roads l h = laws.passable roads l (order.antisym_leq _ _ (laws.greatest _) h)

  -- The costs of the measure.
  abbrev pub costs_of : Costs
  costs_of = record {
    Cost = K;
    ◌≼◌ = AtMost thing leq;
    ◌⊕◌ = plus;
    free = nil;
    blocked = blocked;
    price = price;
    ≼_refl = λ a. order.refl_leq (thing a);
    ≼_trans = λ a b c. order.trans_leq (thing a) (thing b) (thing c);
    ≼_total = one_of_both;
    ⊕_assoc = λ a b c. both_at_most _ _ (laws.associative a b c);
    ⊕_comm = λ a b. both_at_most _ _ (laws.commutative a b);
    free_⊕ = λ a. both_at_most _ _ (laws.neutral a);
    ⊕_more = laws.first_part;
    ⊕_mono = laws.monotone;
    ≼_blocked = laws.greatest;
    few = few_pass;
  }

  -- The test of their order.
  abbrev pub scale_of : Scale costs_of
  scale_of = record { leq = λ a b. leq (thing a) (thing b); leq_true = λ a b e. e; leq_false = λ a b e k. both_ways (leq (thing a) (thing b)) e k }
