-- Entries with a figure.
use Rattle.std.specs.Prelude.{◌≡◌, ℕ, Bool, true, false, List, Ok, Err, Option, Result, nat_lt, refl}
use Rattle.std.specs.Option.{option_map}
use Rattle.std.proofs.Common.{ltb-false}
use Rattle.map.specs.declared.numbers.RoadId.{RoadId}
use Rattle.entries.specs.declared.refusals.Refusal.{Refusal}
use Rattle.entries.specs.declared.refusals.Refusal.TheVariants.{TooSlow}
use Rattle.entries.specs.declared.slowdown.Figure.{Figure}
use Rattle.entries.specs.Entries.{entry_for}

-- The entry of a road and its figure, which is or is not over 60,000.
abbrev pub slowdown_if : (road : RoadId) (seconds : ℕ) (over : Bool) → nat_lt 60000 seconds ≡ over → Result Figure Refusal
slowdown_if road seconds true is = Err TooSlow
slowdown_if road seconds false is = Ok (record { road = road; seconds = seconds; short = ltb-false _ _ is })

-- The entry of a road and its figure, or the refusal of one over 60,000.
abbrev pub slowdown : RoadId → ℕ → Result Figure Refusal
slowdown road seconds = slowdown_if road seconds (nat_lt 60000 seconds) refl

-- The road of an entry, by its number.
abbrev pub slow_road : Figure → ℕ
slow_road e = e.road.0

-- The figure that the entries have for the road r.
abbrev pub figure_in : List Figure → ℕ → Option ℕ
figure_in es r = option_map (λ e. e.seconds) (entry_for slow_road es r)
