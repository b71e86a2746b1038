-- The search answers each question on a lawful world, for all costs.
use Rattle.std.proofs.Common.{ℕ, ◌<◌}
use Rattle.routes.specs.Costs.{Costs}
use Rattle.routes.specs.Walks.{Roads}
use Rattle.routes.specs.Worlds.{Lawful}
use Rattle.routes.specs.Scales.{Scale}
use Rattle.routes.specs.Search.{Given}
use Rattle.routes.specs.Asked.{world, Paired, Answered}
use Rattle.routes.proofs.RunRight
use Rattle.routes.proofs.RouteRight

pub answered : (C : Costs) (S : Scale C) (G : Given C.Cost) (B : Roads C) → Lawful C (world C G B) → Paired C G →
    (s t : ℕ) → s < G.size → t < G.size → Answered C S G s t
answered C S G B L p s t ls lt = record {
  least = RunRight.right C S G B L p s t ls lt;
  way = λ n. (RouteRight.given_route C S G B L p s t ls lt n).0;
  no_twice = λ n. (RouteRight.given_route C S G B L p s t ls lt n).1;
}
