-- A map with each road read through a function keeps the rules of maps, if the function keeps a road's ends and limits.
use Rattle.std.proofs.Common.{◌≡◌, ℕ, ◌≤◌, List, get_or, Some, None, Option, sym, refl, ap, ◌∙◌, subst, arith}
use Rattle.std.specs.Option.{option_map}
use Rattle.fringe.specs.declared.place.Place.{Place}
use Rattle.map.specs.declared.roads.Road.{Road}
use Rattle.map.specs.Model.{MapModel, RoadFits, Lists, WellFormed}
use Rattle.map.specs.Through.{through}

-- The road y has the ends and the steepness of x, and keeps the limit on seconds if x does.
pub record Keeps (x y : Road) : Type 0 where
  pub same_start : y.start ≡ x.start
  pub same_end : y.end ≡ x.end
  pub same_steepness : y.steepness ≡ x.steepness
  pub short : x.seconds ≤ 60000 → y.seconds ≤ 60000

-- A road that is read was there before.
pub record Was (o : Option Road) (f : Road → Road) (y : Road) : Type 0 where
  pub road : Road
  pub there : o ≡ Some road
  pub read : f road ≡ y

pub was : (o : Option Road) (f : Road → Road) (y : Road) → option_map f o ≡ Some y → Was o f y
was (Some x) f y e = record { road = x; there = refl; read = cc }
was None f y e = let z : ◌≡◌ {A = ℕ} 0 1 = cc in let no' : ⊥ = omega arith in absurd no'

module _ (f : ℕ → Road → Road) (m : MapModel) (keeps : (r : ℕ) (x : Road) → Keeps x (f r x)) where
  -- an end of a road that is read is the end of the road that was there
  same_place : (end_of : Road → Place) → ((r : ℕ) (x : Road) → end_of (f r x) ≡ end_of x) →
      (r : ℕ) (y : Road) (w : Was (m.road r) (f r) y) → end_of y ≡ end_of w.road
  same_place end_of same r y w = ap end_of (sym w.read) ∙ same r w.road

  fits : (r : ℕ) (x : Road) → RoadFits m r x → RoadFits (through f m) r (f r x)
  fits r x h = record {
    numbered = h.numbered;
    start_known = rw (keeps r x).same_start h.start_known;
    end_known = rw (keeps r x).same_end h.end_known;
    no_loop = rw ((keeps r x).same_start, (keeps r x).same_end) h.no_loop;
    short = (keeps r x).short h.short;
    mild = rw (keeps r x).same_steepness h.mild;
  }

  lists : (end_of : Road → Place) → ((r : ℕ) (x : Road) → end_of (f r x) ≡ end_of x) →
      (p : ℕ) (l : List ℕ) → Lists m end_of p l → Lists (through f m) end_of p l
  lists end_of same p l h = record {
    only = λ j lt. let t = h.only j lt in record {
      is = f (get_or l j 0) t.is;
      there = ap (option_map (f (get_or l j 0))) t.there;
      touches = ap (λ (q : Place). q.0) (same (get_or l j 0) t.is) ∙ t.touches;
    };
    once = h.once;
    all = λ r y e at. let w = was (m.road r) (f r) y e in
        h.all r w.road w.there (ap (λ (q : Place). q.0) (sym (same_place end_of same r y w)) ∙ at);
  }

  pub through_well : WellFormed m → WellFormed (through f m)
  through_well h = record {
    some_place = h.some_place;
    few_places = h.few_places;
    some_district = h.some_district;
    few_districts = h.few_districts;
    few_roads = h.few_roads;
    district_known = h.district_known;
    no_empty_district = λ d lt. let w = h.no_empty_district d lt in
        record { place = w.place; inhabits = record { known = w.inhabits.known; there = w.inhabits.there } };
    road_fits = λ r y e. let w = was (m.road r) (f r) y e in
        subst (RoadFits (through f m) r) w.read (fits r w.road (h.road_fits r w.road w.there));
    alone = λ r s x y e g starts ends.
        let v = was (m.road r) (f r) x e in
        let w = was (m.road s) (f s) y g in
        let at_start = same_place (λ z. z.start) (λ q z. (keeps q z).same_start) in
        let at_end = same_place (λ z. z.end) (λ q z. (keeps q z).same_end) in
        h.alone r s v.road w.road v.there w.there
        (ap (λ (q : Place). q.0) (sym (at_start r x v)) ∙ starts ∙ ap (λ (q : Place). q.0) (at_start s y w))
        (ap (λ (q : Place). q.0) (sym (at_end r x v)) ∙ ends ∙ ap (λ (q : Place). q.0) (at_end s y w));
    departs = λ p lt. lists (λ z. z.start) (λ q z. (keeps q z).same_start) p (m.departures p) (h.departs p lt);
    arrives = λ p lt. lists (λ z. z.end) (λ q z. (keeps q z).same_end) p (m.arrivals p) (h.arrives p lt);
  }
