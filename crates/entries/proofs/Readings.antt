-- A map whose roads are read through the entries of a table keeps the rules of maps.
use Rattle.std.proofs.Common.{ℕ, ◌≤◌, Bool, Some, None, Option, refl, arith}
use Rattle.std.specs.Option.{option_map}
use Rattle.map.specs.Model.{MapModel, WellFormed}
use Rattle.map.proofs.Through.{through_well}
use Rattle.entries.specs.declared.slowdown.Figure.{Figure}
use Rattle.entries.specs.Readings.{shut, slowed, at_least, closing, slowing}

pub closing_well : (closed : ℕ → Bool) (m : MapModel) → WellFormed m → WellFormed (closing closed m)
closing_well closed m = through_well (λ r. shut (closed r)) m
    (λ r x. record { same_start = refl; same_end = refl; same_steepness = refl; short = λ h. h })

at_least_short : (own : Option Figure) (s : ℕ) → s ≤ 60000 → at_least (option_map (λ (e : Figure). e.seconds) own) s ≤ 60000
at_least_short None s h = h
at_least_short (Some e) s h = omega (arith, e.short)

pub slowing_well : (own : ℕ → Option Figure) (m : MapModel) → WellFormed m → WellFormed (slowing (λ r. option_map (λ e. e.seconds) (own r)) m)
slowing_well own m = through_well (λ r. slowed (option_map (λ e. e.seconds) (own r))) m
    (λ r x. record { same_start = refl; same_end = refl; same_steepness = refl; short = λ h. at_least_short (own r) x.seconds h })
