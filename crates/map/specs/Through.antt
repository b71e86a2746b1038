-- A map with each of its roads read through a function: what a layer over a map means.
use Rattle.std.specs.Prelude.{ℕ}
use Rattle.std.specs.Option.{option_map}
use Rattle.map.specs.declared.roads.Road.{Road}
use Rattle.map.specs.Model.{MapModel}

-- The map m with the road of each number r read through f r. An absent road stays absent, and all else reads as in m.
abbrev pub through : (ℕ → Road → Road) → MapModel → MapModel
through f m = record {
  places = m.places;
  districts = m.districts;
  roads = m.roads;
  district = m.district;
  road = λ r. option_map (f r) (m.road r);
  departures = m.departures;
  arrivals = m.arrivals;
}
