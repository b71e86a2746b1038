use Rattle.std.proofs.Common.{◌≡◌, ℕ, ◌≤◌, Bool, true, false, ltb, Ok, refl, sym, ap, ◌∙◌}
use Rattle.std.specs.Coded.{le_prop}
use Rattle.std.proofs.lemmas.Bool.{le-ltb, false≢true}
use Rattle.map.specs.declared.numbers.RoadId.{RoadId}
use Rattle.entries.specs.Slowdowns.{slowdown_if}
use Rattle.entries.proofs.slowdown.Figure.new.Goals as goal

-- a figure that is not too long makes an entry
makes : (road : RoadId) (s : ℕ) (h : s ≤ 60000) (over : Bool) (is : ltb 60000 s ≡ over) → slowdown_if road s over is ≡ Ok (record { road = road; seconds = s; short = h })
makes road s h true is = absurd (false≢true (sym (le-ltb 60000 s h) ∙ is))
makes road s h false is = ap (λ z. Ok (record { road = road; seconds = s; short = z })) (le_prop _ _)

pub returns : goal.returns
returns c = sym (makes c.args.asked.road c.args.asked.seconds _ (ltb 60000 c.args.asked.seconds) refl)
