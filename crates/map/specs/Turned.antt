-- A map turned round: each road is driven the other way. A search over it from a goal runs against the roads.
use Rattle.std.specs.Option.{option_map}
use Rattle.map.specs.declared.roads.Road.{Road}
use Rattle.map.specs.Model.{MapModel}

-- The road driven the other way: its ends are swapped, and all else is as it was.
abbrev pub reversed : Road → Road
reversed x = record {
  start = x.end;
  end = x.start;
  seconds = x.seconds;
  steepness = x.steepness;
  mark = x.mark;
}

-- The map m with each road driven the other way. What ends at a place in m leaves it here, and the other way about. All
-- else reads as in m.
abbrev pub turned_round : MapModel → MapModel
turned_round m = record {
  places = m.places;
  districts = m.districts;
  roads = m.roads;
  district = m.district;
  road = λ r. option_map reversed (m.road r);
  departures = m.arrivals;
  arrivals = m.departures;
}
