-- What layers over a map may do to it.
use Rattle.std.specs.Prelude.{◌≡◌, ℕ, ◌≤◌, Some}
use Rattle.map.specs.declared.roads.Road.{Road}
use Rattle.map.specs.declared.roads.Mark.TheVariants.{Open}
use Rattle.map.specs.Model.{MapModel}

-- The road x is the base map's road of the number r, perhaps slower, perhaps closed.
pub record Overlaid (base : MapModel) (r : ℕ) (x : Road) : Type 0 where
  pub was : Road
  pub there : base.road r ≡ Some was
  pub start : x.start.0 ≡ was.start.0
  pub end : x.end.0 ≡ was.end.0
  pub steepness : x.steepness ≡ was.steepness
  pub slower : was.seconds ≤ x.seconds
  pub open_below : x.mark ≡ Open → was.mark ≡ Open

-- The map `now` is the base map under layers that close roads and slow them down, and do no more.
pub record Layered (base now : MapModel) : Type 0 where
  pub places : now.places ≡ base.places
  pub districts : now.districts ≡ base.districts
  pub roads : now.roads ≡ base.roads
  pub district : (p : ℕ) → now.district p ≡ base.district p
  pub departures : (p : ℕ) → now.departures p ≡ base.departures p
  pub arrivals : (p : ℕ) → now.arrivals p ≡ base.arrivals p
  pub overlaid : (r : ℕ) (x : Road) → now.road r ≡ Some x → Overlaid base r x
