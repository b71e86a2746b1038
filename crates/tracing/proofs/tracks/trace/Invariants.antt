use Rattle.std.proofs.Common.{ℕ, suc, length}
use Rattle.routes.specs.Labels.{start_at, labels_view}
use Rattle.routes.specs.Search.{trail}
use Rattle.tracing.specs.Listings.{Short}
use Rattle.tracing.proofs.Traced.{Tracing}
use Rattle.tracing.proofs.tracks.trace.Given as goal

abbrev pub invariant-loop-i : goal.invariant-loop-i
invariant-loop-i g l =
    let f = start_at (g.G.Map.model l.map) in
    (n : ℕ) → Short n (length l.initial.list) (trail (suc n) (labels_view f l.labels) l.initial.at.0) → Tracing f l.labels n l.initial.at.0 l.initial.list l.list l.i l.at.0
