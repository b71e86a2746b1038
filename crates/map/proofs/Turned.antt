-- A map turned round keeps the rules of maps, and turned twice it is the map that it was.
use Rattle.std.proofs.Common.{◌≡◌, ℕ, List, Some, None, Option, sym, refl, ap, ◌∙◌, subst}
use mathlib.Core.Path.{fun_ext}
use Rattle.std.specs.Option.{option_map}
use Rattle.fringe.specs.declared.place.Place.{Place}
use Rattle.map.specs.declared.roads.Road.{Road}
use Rattle.map.specs.Model.{MapModel, RoadFits, Lists, WellFormed}
use Rattle.map.specs.Turned.{reversed, turned_round}
use Rattle.map.proofs.Through.{was}

module _ (m : MapModel) where
  fits : (r : ℕ) (x : Road) → RoadFits m r x → RoadFits (turned_round m) r (reversed x)
  fits r x h = record {
    numbered = h.numbered;
    start_known = h.end_known;
    end_known = h.start_known;
    no_loop = λ e. h.no_loop (sym e);
    short = h.short;
    mild = h.mild;
  }

  -- a list of the roads that touch a place with one end lists those that touch it with the other end here
  lists : (here there : Road → Place) → ((x : Road) → here (reversed x) ≡ there x) →
      (p : ℕ) (l : List ℕ) → Lists m there p l → Lists (turned_round m) here p l
  lists here there same p l h = record {
    only = λ j lt. let t = h.only j lt in record {
      is = reversed t.is;
      there = ap (option_map reversed) t.there;
      touches = ap (λ (q : Place). q.0) (same t.is) ∙ t.touches;
    };
    once = h.once;
    all = λ r y e at. let w = was (m.road r) reversed y e in
        h.all r w.road w.there (ap (λ (q : Place). q.0) (sym (same w.road) ∙ ap here w.read) ∙ at);
  }

  pub turned_keeps_rules : WellFormed m → WellFormed (turned_round m)
  turned_keeps_rules h = record {
    some_place = h.some_place;
    few_places = h.few_places;
    some_district = h.some_district;
    few_districts = h.few_districts;
    few_roads = h.few_roads;
    district_known = h.district_known;
    no_empty_district = λ d lt. let w = h.no_empty_district d lt in
        record { place = w.place; inhabits = record { known = w.inhabits.known; there = w.inhabits.there } };
    road_fits = λ r y e. let w = was (m.road r) reversed y e in
        subst (RoadFits (turned_round m) r) w.read (fits r w.road (h.road_fits r w.road w.there));
    alone = λ r s x y e g starts ends.
        let v = was (m.road r) reversed x e in
        let w = was (m.road s) reversed y g in
        h.alone r s v.road w.road v.there w.there
        (ap (λ (z : Road). z.end.0) v.read ∙ ends ∙ ap (λ (z : Road). z.end.0) (sym w.read))
        (ap (λ (z : Road). z.start.0) v.read ∙ starts ∙ ap (λ (z : Road). z.start.0) (sym w.read));
    departs = λ p lt. lists (λ z. z.start) (λ z. z.end) (λ z. refl) p (m.arrivals p) (h.arrives p lt);
    arrives = λ p lt. lists (λ z. z.end) (λ z. z.start) (λ z. refl) p (m.departures p) (h.departs p lt);
  }

-- a road that is reversed twice is the road
reversed_twice : (o : Option Road) → option_map reversed (option_map reversed o) ≡ o
reversed_twice (Some x) = refl
reversed_twice None = refl

pub turned_twice : (m : MapModel) → turned_round (turned_round m) ≡ m
turned_twice m = ap
    (λ (road : ℕ → Option Road). record {
      places = m.places;
      districts = m.districts;
      roads = m.roads;
      district = m.district;
      road = road;
      departures = m.departures;
      arrivals = m.arrivals;
    })
    (fun_ext (λ r. reversed_twice (m.road r)))
