-- The rules of maps as one test that is computed.
use Rattle.std.proofs.Common.{◌≡◌, ℕ, zero, suc, ◌<◌, ◌≤◌, Bool, true, false, not, ◌&&◌, ◌||◌, eqb, ltb, leb, List, length, get_or, Some, None, Option, sym, refl, subst, subst₂, ⊎_elim, arith, ltb-true, leb-true}
use mathlib.Core.Bool.{false≢true}
use mathlib.Core.Option.{Option as Maybe, some, none}
use Rattle.std.proofs.lemmas.Bool.{cases_eq, and_parts, eqb-true, eq-eqb}
use Rattle.fringe.specs.declared.place.Place.{Place}
use Rattle.map.specs.declared.roads.Road.{Road}
use Rattle.map.specs.Model.{MapModel, WellFormed, Inhabited, RoadFits, Touches, Stands, Lists}
use Rattle.samples.specs.Preparing.{lowest_from}
use Rattle.samples.proofs.Holding.{LowestOk, lowest_ok}

-- ---- tests of all numbers below a bound
abbrev all_below : ℕ → (ℕ → Bool) → Bool
all_below zero f = true
all_below (suc n) f = f n && all_below n f

-- so it does
pub every : (n : ℕ) (f : ℕ → Bool) → all_below n f ≡ true → (k : ℕ) → k < n → f k ≡ true
every zero f t k l = absurd (omega arith)
every (suc n) f t k l = let q = and_parts _ _ t in
    ⊎_elim (λ (s : k ≡ n). subst (λ z. f z ≡ true) (sym s) q.0) (λ (s : k ≡ n → ⊥). every n f q.1 k (omega arith)) (cases_eq k n)

-- where a number stands in a list, if it does
abbrev stands_at : List ℕ → ℕ → ℕ → Bool
stands_at l r zero = false
stands_at l r (suc n) = eqb (get_or l n 0) r || stands_at l r n

-- so it stands there
stands : (l : List ℕ) (r n : ℕ) → n ≤ length l → stands_at l r n ≡ true → Stands l r
stands l r zero h t = absurd (false≢true t)
stands l r (suc n) h t = by (eqb (get_or l n 0) r) refl (stands l r n (omega arith)) t
  where
    by : (b : Bool) → eqb (get_or l n 0) r ≡ b → (stands_at l r n ≡ true → Stands l r) → (b || stands_at l r n) ≡ true → Stands l r
    by true e more q = record { index = n; within = h; same = eqb-true _ _ e }
    by false e more q = more q

-- a test that says: if this then that
implied : (a b : Bool) → (not a || b) ≡ true → a ≡ true → b ≡ true
implied true b t e = t
implied false b t e = absurd (false≢true e)

-- ---- the test of a map
abbrev road_fits : MapModel → Option Road → Bool
road_fits m None = true
road_fits m (Some x) = ltb x.start.0 m.places && (ltb x.end.0 m.places && (not (eqb x.start.0 x.end.0) && (leb x.seconds 60000 && leb x.steepness 1000)))

-- two roads of one start and end have one number
abbrev alone : ℕ → ℕ → Option Road → Option Road → Bool
alone r s None y = true
alone r s (Some x) None = true
alone r s (Some x) (Some y) = not (eqb x.start.0 y.start.0 && eqb x.end.0 y.end.0) || eqb r s

-- the road is there and touches the place p
abbrev touches : (Road → Place) → ℕ → Option Road → Bool
touches end_of p None = false
touches end_of p (Some x) = eqb (end_of x).0 p

-- a road that touches the place p stands in the list
abbrev listed : (Road → Place) → ℕ → List ℕ → ℕ → Option Road → Bool
listed end_of p l r None = true
listed end_of p l r (Some x) = not (eqb (end_of x).0 p) || stands_at l r (length l)

-- the list of a place: it names only roads that touch the place, each once, and all of them
module _ (m : MapModel) (end_of : Road → Place) (p : ℕ) (l : List ℕ) where
  abbrev only : ℕ → Bool
  only j = touches end_of p (m.road (get_or l j 0))

  abbrev once : ℕ → ℕ → Bool
  once i j = not (eqb (get_or l i 0) (get_or l j 0)) || eqb i j

  abbrev all_listed : ℕ → Bool
  all_listed r = listed end_of p l r (m.road r)

  abbrev lists : Bool
  lists = all_below (length l) only && (all_below (length l) (λ i. all_below (length l) (once i)) && all_below m.roads all_listed)

-- a place was found
abbrev has_place : Maybe ℕ → Bool
has_place none = false
has_place (some p) = true

-- the counts keep their limits
abbrev counts_fit : MapModel → Bool
counts_fit m = leb 1 m.places && (leb m.places 1024 && (leb 1 m.districts && (leb m.districts 64 && leb m.roads 4096)))

-- the tests of districts, roads and lists
module _ (m : MapModel) where
  abbrev in_district : ℕ → Bool
  in_district p = ltb (m.district p) m.districts

  abbrev inhabited : ℕ → Bool
  inhabited d = has_place (lowest_from m.district d 0 m.places)

  abbrev fitting : ℕ → Bool
  fitting r = road_fits m (m.road r)

  abbrev apart : ℕ → ℕ → Bool
  apart r s = alone r s (m.road r) (m.road s)

  abbrev lists_out : ℕ → Bool
  lists_out p = lists m (λ x. x.start) p (m.departures p)

  abbrev lists_in : ℕ → Bool
  lists_in p = lists m (λ x. x.end) p (m.arrivals p)

  abbrev places_fit : Bool
  places_fit = all_below m.places in_district && all_below m.districts inhabited

  abbrev roads_fit : Bool
  roads_fit = all_below m.roads fitting && all_below m.roads (λ r. all_below m.roads (apart r))

  abbrev lists_fit : Bool
  lists_fit = all_below m.places lists_out && all_below m.places lists_in

  -- the whole test
  abbrev pub keeps_rules : Bool
  keeps_rules = counts_fit m && (places_fit && (roads_fit && lists_fit))

-- ---- what the test says
module _ (m : MapModel) (bounded : (r : ℕ) (x : Road) → m.road r ≡ Some x → r < m.roads) where
  a_place : (d : ℕ) → has_place (lowest_from m.district d 0 m.places) ≡ true → Inhabited m d
  a_place d t = by (lowest_from m.district d 0 m.places) (lowest_ok m.district d 0 m.places) t
    where
      by : (o : Maybe ℕ) → LowestOk m.district d 0 m.places o → has_place o ≡ true → Inhabited m d
      by none h e = absurd (false≢true e)
      by (some p) h e = record { place = p; inhabits = record { known = omega (arith, h.0); there = h.1 } }

  road_does : (r : ℕ) (x : Road) → m.road r ≡ Some x → road_fits m (m.road r) ≡ true → RoadFits m r x
  road_does r x e t =
      let a = and_parts _ _ (subst (λ z. road_fits m z ≡ true) e t) in
      let b = and_parts _ _ a.1 in
      let c = and_parts _ _ b.1 in
      let d = and_parts _ _ c.1 in
      record {
        numbered = bounded r x e;
        start_known = ltb-true _ _ a.0;
        end_known = ltb-true _ _ b.0;
        no_loop = λ s. both (eqb x.start.0 x.end.0) (eq-eqb _ _ s) c.0;
        short = leb-true _ _ d.0;
        mild = leb-true _ _ d.1;
      }
    where
      both : (b : Bool) → b ≡ true → not b ≡ true → ⊥
      both true e n = false≢true n
      both false e n = false≢true e

  alone_so : (r s : ℕ) (x y : Road) → m.road r ≡ Some x → m.road s ≡ Some y → alone r s (m.road r) (m.road s) ≡ true →
      x.start.0 ≡ y.start.0 → x.end.0 ≡ y.end.0 → r ≡ s
  alone_so r s x y e f t p q =
      eqb-true _ _ (implied _ _ (subst₂ (λ z w. alone r s z w ≡ true) e f t) (and_so (eqb x.start.0 y.start.0) (eq-eqb _ _ p) (eq-eqb _ _ q)))
    where
      and_so : (a : Bool) {b : Bool} → a ≡ true → b ≡ true → (a && b) ≡ true
      and_so true e f = f
      and_so false e f = e

  module _ (end_of : Road → Place) (p : ℕ) (l : List ℕ) (t : lists m end_of p l ≡ true) where
    touches_so : (r : ℕ) (o : Option Road) → m.road r ≡ o → touches end_of p o ≡ true → Touches m end_of p r
    touches_so r None e u = absurd (false≢true u)
    touches_so r (Some x) e u = record { is = x; there = e; touches = eqb-true _ _ u }

    lists_so : Lists m end_of p l
    lists_so =
        let a = and_parts (all_below (length l) (only m end_of p l)) (all_below (length l) (λ i. all_below (length l) (once m end_of p l i)) && all_below m.roads (all_listed m end_of p l)) t in
        let b = and_parts (all_below (length l) (λ i. all_below (length l) (once m end_of p l i))) (all_below m.roads (all_listed m end_of p l)) a.1 in
        record {
          only = λ j h. touches_so (get_or l j 0) (m.road (get_or l j 0)) refl (every (length l) (only m end_of p l) a.0 j h);
          once = λ i j h k s. eqb-true _ _
              (implied (eqb (get_or l i 0) (get_or l j 0)) (eqb i j) (every (length l) (once m end_of p l i) (every (length l) (λ i. all_below (length l) (once m end_of p l i)) b.0 i h) j k) (eq-eqb _ _ s));
          all = λ r x e s. stands l r (length l) (omega arith)
              (implied (eqb (end_of x).0 p) (stands_at l r (length l)) (subst (λ z. listed end_of p l r z ≡ true) e (every m.roads (all_listed m end_of p l) b.1 r (bounded r x e))) (eq-eqb _ _ s));
        }

  -- a map that passes it keeps the rules
  pub rules_kept : keeps_rules m ≡ true → WellFormed m
  rules_kept t =
      let a = and_parts (counts_fit m) (places_fit m && (roads_fit m && lists_fit m)) t in
      let b = and_parts (places_fit m) (roads_fit m && lists_fit m) a.1 in
      let c = and_parts (roads_fit m) (lists_fit m) b.1 in
      let places = and_parts (all_below m.places (in_district m)) (all_below m.districts (inhabited m)) b.0 in
      let roads = and_parts (all_below m.roads (fitting m)) (all_below m.roads (λ r. all_below m.roads (apart m r))) c.0 in
      let lists = and_parts (all_below m.places (lists_out m)) (all_below m.places (lists_in m)) c.1 in
      let n = and_parts _ _ a.0 in
      let o = and_parts _ _ n.1 in
      let q = and_parts _ _ o.1 in
      let u = and_parts _ _ q.1 in
      record {
        some_place = leb-true 1 m.places n.0;
        few_places = leb-true m.places 1024 o.0;
        some_district = leb-true 1 m.districts q.0;
        few_districts = leb-true m.districts 64 u.0;
        few_roads = leb-true m.roads 4096 u.1;
        district_known = λ p h. ltb-true _ _ (every m.places (in_district m) places.0 p h);
        no_empty_district = λ k h. a_place k (every m.districts (inhabited m) places.1 k h);
        road_fits = λ r x s. road_does r x s (every m.roads (fitting m) roads.0 r (bounded r x s));
        alone = λ r s x y v w. alone_so r s x y v w (every m.roads (apart m r) (every m.roads (λ r. all_below m.roads (apart m r)) roads.1 r (bounded r x v)) s (bounded s y w));
        departs = λ p h. lists_so (λ x. x.start) p (m.departures p) (every m.places (lists_out m) lists.0 p h);
        arrives = λ p h. lists_so (λ x. x.end) p (m.arrivals p) (every m.places (lists_in m) lists.1 p h);
      }
