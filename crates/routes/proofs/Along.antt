-- Relaxing and summing along the rows of open roads comes to what the search does with what it is given.
use Rattle.std.proofs.Common.{◌≡◌, ℕ, ◌<◌, Bool, List, length, sym, ap, ◌∙◌, subst}
use mathlib.Core.Option.{none}
use Rattle.fringe.specs.Orders.{TotalOrder}
use Rattle.map.specs.Model.{MapModel, WellFormed}
use Rattle.measure.specs.Costs.{CostLaws}
use Rattle.routes.specs.States.{Label}
use Rattle.routes.specs.Search.{Ops, Given, flip}
use Rattle.routes.specs.Search
use Rattle.routes.specs.Rows as R
use Rattle.routes.specs.Asking.{Table, given, open_roads, roads_into}
use Rattle.routes.proofs.Rows
use Rattle.routes.proofs.MapRoads
use Rattle.routes.proofs.Linked

module _ {K T : Type 0} (thing : K → T) (leq : T → T → Bool) (order : TotalOrder leq)
    (plus : K → K → K) (nil blocked : K) (price : ℕ → ℕ → K) (code : K → ℕ) (laws : CostLaws thing leq plus nil blocked price code)
    (now base : MapModel) (fits : WellFormed now) (table : Table K) (empty : Bool) where
  abbrev O : Ops K
  O = Linked.operations thing leq order plus nil blocked price code laws

  abbrev G : Given K
  G = given nil price now base table empty

  module _ (u : ℕ) (l : u < now.places) where
    -- forward, along the roads out of u
    pub relax_out : (c : K) (ls : List (Label K)) → length ls ≡ now.places → R.relax_row O (open_roads price now u) u c ls ≡ Search.relax O (G.price u) u c 0 ls
    relax_out c ls sized =
        Rows.relax_row_is (Linked.costs thing leq order plus nil blocked price code laws) (Linked.scale thing leq order plus nil blocked price code laws) (open_roads price now u) u c ls
        (MapRoads.out_once plus nil price now fits u l) (λ v h. subst (λ z. v < z) (sym sized) (MapRoads.out_known plus nil price now fits u v h))
        ∙ ap (λ r. Search.relax O r u c 0 ls) (sym (MapRoads.price_out plus nil price now fits u l))

    pub sum_out : (mine theirs : List (Label K)) → R.sum_row O (open_roads price now u) mine theirs none ≡ Search.sums O (G.price u) 0 mine theirs
    sum_out mine theirs =
        Rows.sum_row_is (Linked.costs thing leq order plus nil blocked price code laws) (Linked.scale thing leq order plus nil blocked price code laws) (open_roads price now u) mine theirs
        ∙ ap (λ r. Search.sums O r 0 mine theirs) (sym (MapRoads.price_out plus nil price now fits u l))

    -- backward, along the roads into u
    pub relax_in : (c : K) (ls : List (Label K)) → length ls ≡ now.places → R.relax_row O (roads_into price now u) u c ls ≡ Search.relax O ((flip G).price u) u c 0 ls
    relax_in c ls sized =
        Rows.relax_row_is (Linked.costs thing leq order plus nil blocked price code laws) (Linked.scale thing leq order plus nil blocked price code laws) (roads_into price now u) u c ls
        (MapRoads.into_once plus nil price now fits u l) (λ v h. subst (λ z. v < z) (sym sized) (MapRoads.into_known plus nil price now fits u v h))
        ∙ ap (λ r. Search.relax O r u c 0 ls) (sym (MapRoads.price_into plus nil price now fits u l))

    pub sum_in : (mine theirs : List (Label K)) → R.sum_row O (roads_into price now u) mine theirs none ≡ Search.sums O ((flip G).price u) 0 mine theirs
    sum_in mine theirs =
        Rows.sum_row_is (Linked.costs thing leq order plus nil blocked price code laws) (Linked.scale thing leq order plus nil blocked price code laws) (roads_into price now u) mine theirs
        ∙ ap (λ r. Search.sums O r 0 mine theirs) (sym (MapRoads.price_into plus nil price now fits u l))
