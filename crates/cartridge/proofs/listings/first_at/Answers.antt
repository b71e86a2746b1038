use Rattle.std.proofs.Common.{◌≡◌, ℕ, Option, refl, ap, ◌∙◌, rules}
use Rattle.std.proofs.lemmas.List.Sorted.{IsPartitionPoint-from_clause}
use Rattle.cartridge.proofs.Halving.{lies_below, parted, begins}
use Rattle.cartridge.proofs.listings.first_at.Goals as goal

pub returns-clause-begins : goal.returns-clause-begins
returns-clause-begins g c = λ k key computes keyed climbs.
    let xs = c.args.entries.now in
    let p = c.args.place in
    begins xs k key p keyed c.partition_point.result c.partition_point.ensures.bound
    (IsPartitionPoint-from_clause (λ y. lies_below (k y) p) xs _ c.partition_point.ensures.partitioned (parted xs k key p keyed climbs) (λ a r f q.
    let o : (o : Option ℕ) × (g.F.Fn.post c.args.place_of.now a o) × (r ≡ lies_below o p) = search rules in
    (o.2 ∙ ap (λ x. lies_below x p) (computes a.0.now o.0 (record { shown = a.0; shows = refl; says = record { met = o.1 } })), search rules)))
