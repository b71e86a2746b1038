-- That a table is limited is one fact: it has no two proofs. So a type may say it beside a table.
use Rattle.std.proofs.Common.{◌≡◌, ℕ, ◌+◌, ◌≤◌, length}
use Rattle.std.proofs.Props.{props}
use Rattle.entries.specs.Entries.{Kept, Apart, Limited}

pub limited_prop : {X : Type 0} (road_of : X → ℕ) (t : Kept X) → IsProp (Limited road_of t)
limited_prop road_of t x y =
    let wide_prop : IsProp (length t.used + length t.spare ≡ 64) = hlevel props in
    let few_prop : IsProp (length t.used ≤ 64) = hlevel props in
    let distinct_prop : IsProp (Apart road_of t.used) = hlevel props in
    λ i. record {
      wide = wide_prop x.wide y.wide i;
      few = few_prop x.few y.few i;
      distinct = distinct_prop x.distinct y.distinct i;
    }
