-- The labels of code as the labels of the search.
use Rattle.std.specs.Prelude.{ℕ, List, [], ◌∷◌, Some, None, Option}
use Rattle.fringe.specs.declared.place.Place.{Place}
use Rattle.map.specs.declared.roads.Road.{Road}
use Rattle.map.specs.Model.{MapModel}
use Rattle.routes.specs.declared.labels.Origin.{Origin as Source}
use Rattle.routes.specs.declared.labels.Origin.TheVariants as source
use Rattle.routes.specs.declared.labels.Label.{Label as Mark}
use Rattle.routes.specs.declared.labels.Label.TheVariants as mark
use Rattle.routes.specs.States.{Origin, Start, From, Label, Blank, Reached, Settled}

-- The place at one end of a road, and 0 where there is no road.
abbrev pub end_in : (Road → Place) → Option Road → ℕ
end_in end_of None = 0
end_in end_of (Some x) = (end_of x).0

-- The place that the road of a number starts at, and the one that it ends at.
abbrev pub start_at : MapModel → ℕ → ℕ
start_at m r = end_in (λ x. x.start) (m.road r)

abbrev pub end_at : MapModel → ℕ → ℕ
end_at m r = end_in (λ x. x.end) (m.road r)

-- A road stands for the place that it comes from: forward its start, backward its end. `start_of` says which that is.
module _ (start_of : ℕ → ℕ) where
  abbrev pub origin_view : Source → Origin
  origin_view source.Start = Start
  origin_view (source.Road r) = From (start_of r.0)

  abbrev pub label_view : {K : Type 0} → Mark K → Label K
  label_view mark.Blank = Blank
  label_view (mark.Reached c o) = Reached c (origin_view o)
  label_view (mark.Settled c o) = Settled c (origin_view o)

  abbrev pub labels_view : {K : Type 0} → List (Mark K) → List (Label K)
  labels_view [] = []
  labels_view (l ∷ ls) = label_view l ∷ labels_view ls
