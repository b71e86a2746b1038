-- Layers over layers.
use Rattle.std.proofs.Common.{refl, ◌∙◌, arith}
use Rattle.map.specs.Model.{MapModel}
use Rattle.routes.specs.Layers.{Layered}

-- a map without layers
pub layered_self : (m : MapModel) → Layered m m
layered_self m = record {
  places = refl;
  districts = refl;
  roads = refl;
  district = λ p. refl;
  departures = λ p. refl;
  arrivals = λ p. refl;
  overlaid = λ r x e. record { was = x; there = e; start = refl; end = refl; steepness = refl; slower = omega arith; open_below = λ h. h };
}

-- one layer over another
pub layered_over : (base mid now : MapModel) → Layered base mid → Layered mid now → Layered base now
layered_over base mid now a b = record {
  places = b.places ∙ a.places;
  districts = b.districts ∙ a.districts;
  roads = b.roads ∙ a.roads;
  district = λ p. b.district p ∙ a.district p;
  departures = λ p. b.departures p ∙ a.departures p;
  arrivals = λ p. b.arrivals p ∙ a.arrivals p;
  overlaid = λ r x e.
      let y = b.overlaid r x e in
      let z = a.overlaid r y.was y.there in
      record {
        was = z.was;
        there = z.there;
        start = y.start ∙ z.start;
        end = y.end ∙ z.end;
        steepness = y.steepness ∙ z.steepness;
        slower = omega (arith, y.slower, z.slower);
        open_below = λ h. z.open_below (y.open_below h);
      };
}
