-- What a kind of layer goes by.
use Rattle.std.specs.Prelude.{◌≡◌, ℕ, Bool, is_some, Some, None, Ok, Option, Result}
use Rattle.map.specs.declared.roads.Road.{Road}
use Rattle.entries.specs.declared.refusals.Refusal.{Refusal}

-- `shows` gives what an entry, if there is one, says of its road, `counted` whether it says that there is one, and
-- `reads` how a road reads of which that is said. `named` gives the road of a call, `entry_of` the entry that the call is
-- to give it, if any, or why there is none, and `leaves` what the last call on a road, if there was one, says of it.
pub record Rules (E C V : Type 0) : Type 0 where
  pub shows : Option E → V
  pub counted : V → Bool
  pub reads : V → Road → Road
  pub named : C → ℕ
  pub entry_of : C → Result (Option E) Refusal
  pub leaves : Option C → V

-- A call says of its road what the entry says that it gives it.
pub record RuleLaws {E C V : Type 0} (road_of : E → ℕ) (k : Rules E C V) : Type 0 where
  pub blank : k.shows None ≡ k.leaves None
  pub counts : (own : Option E) → k.counted (k.shows own) ≡ is_some own
  pub own_road : (call : C) (e : E) → k.entry_of call ≡ Ok (Some e) → road_of e ≡ k.named call
  pub says : (call : C) (own : Option E) → k.entry_of call ≡ Ok own → k.shows own ≡ k.leaves (Some call)
