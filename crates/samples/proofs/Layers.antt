-- How many entries the layers have after a history of no call or one on each.
use Rattle.std.proofs.Common.{◌≡◌, ℕ, ◌+◌, ◌<◌, Bool, true, false, cond, eqb, ltb, List, [], ◌∷◌, length, is_some, Some, None, sym, refl, ap, ◌∙◌, ltb-true}
use mathlib.Core.Bool.{false≢true}
use Rattle.std.proofs.lemmas.Bool.{eq-eqb, ne_eqb}
use Rattle.map.specs.declared.numbers.RoadId.{RoadId}
use Rattle.layers.specs.declared.calls.ClosureCall.{ClosureCall}
use Rattle.layers.specs.declared.calls.ClosureCall.TheVariants.{Close, Open}
use Rattle.layers.specs.declared.calls.SlowdownCall.{SlowdownCall}
use Rattle.layers.specs.declared.calls.SlowdownCall.TheVariants.{Slow, Clear}
use Rattle.layers.specs.Closures.{closed_by, closures_by, is_close}
use Rattle.layers.specs.Slowdowns.{figure_by, figures_by, figure_of}
use Rattle.layers.proofs.Counting.{many_none, many_more}

-- no call closes nothing, and slows nothing
pub none_closed : closures_by [] ≡ 0
none_closed = many_none (closed_by []) 65536 (λ r. refl)

pub none_slowed : figures_by [] ≡ 0
none_slowed = many_none (λ r. is_some (figure_by [] r)) 65536 (λ r. refl)

-- one call closes one road
module _ (r : RoadId) where
  closed_at : (q : ℕ) (b : Bool) → eqb r.0 q ≡ b → closed_by (Close r ∷ []) q ≡ b
  closed_at q true e = ap (λ z. is_close (cond z (Some (Close r)) None)) e
  closed_at q false e = ap (λ z. is_close (cond z (Some (Close r)) None)) e

  pub one_closed : r.0 < 65536 → closures_by (Close r ∷ []) ≡ 1
  one_closed l =
      many_more (closed_by []) (closed_by (Close r ∷ [])) r.0 65536 l refl (closed_at r.0 true (eq-eqb _ _ refl)) (λ q n. closed_at q false (ne_eqb _ _ (λ e. n (sym e))))
      ∙ ap (λ z. z + 1) none_closed

-- one call slows one road
module _ (r : RoadId) (f : ℕ) where
  slowed_at : (q : ℕ) (b : Bool) → eqb r.0 q ≡ b → is_some (figure_by (Slow r f ∷ []) q) ≡ b
  slowed_at q true e = ap (λ z. is_some (figure_of (cond z (Some (Slow r f)) None))) e
  slowed_at q false e = ap (λ z. is_some (figure_of (cond z (Some (Slow r f)) None))) e

  pub one_slowed : r.0 < 65536 → figures_by (Slow r f ∷ []) ≡ 1
  one_slowed l =
      many_more (λ q. is_some (figure_by [] q)) (λ q. is_some (figure_by (Slow r f ∷ []) q)) r.0 65536 l refl (slowed_at r.0 true (eq-eqb _ _ refl))
      (λ q n. slowed_at q false (ne_eqb _ _ (λ e. n (sym e))))
      ∙ ap (λ z. z + 1) none_slowed

-- no call, or one that closes or slows a road
abbrev pub brief_closures : List ClosureCall → Bool
brief_closures [] = true
brief_closures (Close r ∷ []) = ltb r.0 65536
brief_closures (Close r ∷ (d ∷ h)) = false
brief_closures (Open r ∷ h) = false

abbrev pub brief_slowdowns : List SlowdownCall → Bool
brief_slowdowns [] = true
brief_slowdowns (Slow r f ∷ []) = ltb r.0 65536
brief_slowdowns (Slow r f ∷ (d ∷ h)) = false
brief_slowdowns (Clear r ∷ h) = false

-- there are as many entries as calls
pub closures_counted : (h : List ClosureCall) → brief_closures h ≡ true → closures_by h ≡ length h
closures_counted [] e = none_closed
closures_counted (Close r ∷ []) e = one_closed r (ltb-true _ _ e)
closures_counted (Close r ∷ (d ∷ h)) e = absurd (false≢true e)
closures_counted (Open r ∷ h) e = absurd (false≢true e)

pub slowdowns_counted : (h : List SlowdownCall) → brief_slowdowns h ≡ true → figures_by h ≡ length h
slowdowns_counted [] e = none_slowed
slowdowns_counted (Slow r f ∷ []) e = one_slowed r f (ltb-true _ _ e)
slowdowns_counted (Slow r f ∷ (d ∷ h)) e = absurd (false≢true e)
slowdowns_counted (Clear r ∷ h) e = absurd (false≢true e)
