use Rattle.std.proofs.Common.{◌≡◌, ℕ, suc, ◌+◌, length}
use Rattle.routes.specs.Labels.{start_at, labels_view}
use Rattle.routes.specs.Sweeps.{root}
use Rattle.preparing.proofs.rooting.root_of.Given as goal

abbrev pub invariant-loop : goal.invariant-loop
invariant-loop g l =
    let row = labels_view (start_at (g.G.Map.model l.map)) l.labels in
    (k : ℕ) → k + l.counter ≡ suc (length l.labels) → root k row l.at.0 ≡ root (suc (length l.labels)) row l.initial.at.0
