-- The rows of open roads out of a place and into it hold the open roads of the map, and no others.
use Rattle.std.proofs.Common.{◌≡◌, ℕ, zero, suc, ◌<◌, Bool, true, false, cond, ltb, List, [], ◌∷◌, length, get_or, Some, None, Option, sym, refl, ap, ◌∙◌, subst, inl, inr, ⊎_elim, arith}
use mathlib.Core.Option.{Option as Maybe, some, none}
use Rattle.std.proofs.lemmas.Bool.{or_left, or_right, lt-ltb, ltb-true, ne_eqb, not_from_false}
use Rattle.map.specs.declared.roads.Road.{Road}
use Rattle.map.specs.declared.roads.Mark.{Mark}
use Rattle.map.specs.declared.roads.Mark.TheVariants.{Open, Closed}
use Rattle.fringe.specs.declared.place.Place.{Place}
use Rattle.map.specs.Model.{MapModel, Touches, WellFormed}
use Rattle.routes.specs.Promise.{Among, NoneTwice, OpenRoad}
use Rattle.routes.specs.Rows.{Row, look, ends}
use Rattle.routes.specs.Asking.{is_open, in_front, row_of, open_roads, roads_into, leaves, some_leaves, is_border}
use Rattle.routes.proofs.Gate.{none_some, some_one}
use Rattle.routes.proofs.Rows.{look_cases}

-- one number has one road
pub one_road : (m : MapModel) (r : ℕ) (x y : Road) → m.road r ≡ Some x → m.road r ≡ Some y → x ≡ y
one_road m r x y e f = let h : Some x ≡ Some y = sym e ∙ f in cc h

-- An open road between two places, whichever end of it is the near one.
pub record Leads {K : Type 0} (price : ℕ → ℕ → K) (m : MapModel) (near far : Road → Place) (u v : ℕ) (c : K) : Type 0 where
  pub number : ℕ
  pub road : Road
  pub there : m.road number ≡ Some road
  pub from : (near road).0 ≡ u
  pub to : (far road).0 ≡ v
  pub is_open : road.mark ≡ Open
  pub costs : price road.seconds road.steepness ≡ c

-- one number for each pair of ends
abbrev pub Alone : MapModel → (Road → Place) → (Road → Place) → Type 0
Alone m near far = (r s : ℕ) (x y : Road) → m.road r ≡ Some x → m.road s ≡ Some y → (near x).0 ≡ (near y).0 → (far x).0 ≡ (far y).0 → r ≡ s

-- the row of a list of roads that share their near end u
module _ {K : Type 0} (price : ℕ → ℕ → K) (m : MapModel) (near far : Road → Place) (u : ℕ) where
  abbrev cost_of : Road → K
  cost_of x = price x.seconds x.steepness

  abbrev AllNear : List ℕ → Type 0
  AllNear rs = (j : ℕ) → j < length rs → Touches m near u (get_or rs j 0)

  look_head : (r : ℕ × K) (row : Row K) (v : ℕ) → r.0 ≡ v → look (r ∷ row) v ≡ some r.1
  look_head r row v e = ⊎_elim (λ h. h.1) (λ h. absurd (h.0 (sym e))) (look_cases r row v)

  front_open : (x : Road) (row : Row K) → x.mark ≡ Open → in_front price far (Some x) row ≡ ((far x).0, cost_of x) ∷ row
  front_open x row e = ap (λ k. cond (is_open k) (((far x).0, cost_of x) ∷ row) row) e

  near_is : (r : ℕ) (x : Road) → Touches m near u r → m.road r ≡ Some x → (near x).0 ≡ u
  near_is r x h q = subst (λ z. (near z).0 ≡ u) (one_road m r h.is x h.there q) h.touches

  -- what is found in a row is an open road
  pub found : (v : ℕ) (c : K) (rs : List ℕ) → AllNear rs → look (row_of price far m rs) v ≡ some c → Leads price m near far u v c
  found v c [] h e = absurd (none_some {K = K} none c refl e)
  found v c (r ∷ rs) h e = by (found v c rs (λ j l. h (suc j) (omega (arith, l)))) (m.road r) refl e
    where
      by : (look (row_of price far m rs) v ≡ some c → Leads price m near far u v c) → (o : Option Road) → m.road r ≡ o →
          look (in_front price far o (row_of price far m rs)) v ≡ some c → Leads price m near far u v c
      by rest None q e = rest e
      by rest (Some x) q e = at x.mark refl e
        where
          at : (k : Mark) → x.mark ≡ k → look (cond (is_open k) (((far x).0, cost_of x) ∷ row_of price far m rs) (row_of price far m rs)) v ≡ some c → Leads price m near far u v c
          at Closed k e = rest e
          at Open k e = ⊎_elim
              (λ p. record {
                number = r;
                road = x;
                there = q;
                from = near_is r x (h 0 (omega arith)) q;
                to = p.0;
                is_open = k;
                costs = some_one (look (((far x).0, cost_of x) ∷ row_of price far m rs) v) (cost_of x) c p.1 e;
              })
              (λ p. rest (sym p.1 ∙ e)) (look_cases ((far x).0, cost_of x) (row_of price far m rs) v)

  -- an end of a row is that of a road of the list
  pub record EndOf (rs : List ℕ) (v : ℕ) : Type 0 where
    pub index : ℕ
    pub within : index < length rs
    pub road : Road
    pub there : m.road (get_or rs index 0) ≡ Some road
    pub to : (far road).0 ≡ v

  pub end_of : (rs : List ℕ) (v : ℕ) → Among v (ends (row_of price far m rs)) → EndOf rs v
  end_of [] v h = absurd h
  end_of (r ∷ rs) v h = by (end_of rs v) (m.road r) refl h
    where
      later : EndOf rs v → EndOf (r ∷ rs) v
      later k = record { index = suc k.index; within = omega (arith, k.within); road = k.road; there = k.there; to = k.to }

      by : (Among v (ends (row_of price far m rs)) → EndOf rs v) → (o : Option Road) → m.road r ≡ o → Among v (ends (in_front price far o (row_of price far m rs))) → EndOf (r ∷ rs) v
      by rest None q h = later (rest h)
      by rest (Some x) q h = at x.mark h
        where
          at : (k : Mark) → Among v (ends (cond (is_open k) (((far x).0, cost_of x) ∷ row_of price far m rs) (row_of price far m rs))) → EndOf (r ∷ rs) v
          at Closed h = later (rest h)
          at Open (inl e) = record { index = 0; within = omega arith; road = x; there = q; to = sym e }
          at Open (inr h) = later (rest h)

  module _ (alone : Alone m near far) where
    -- an open road of the list is found in its row
    pub listed : (v n : ℕ) (x : Road) → m.road n ≡ Some x → (near x).0 ≡ u → (far x).0 ≡ v → x.mark ≡ Open → (rs : List ℕ) → AllNear rs →
        (i : ℕ) → i < length rs → get_or rs i 0 ≡ n → look (row_of price far m rs) v ≡ some (cost_of x)
    listed v n x there from to isopen [] h i l e = absurd (omega (arith, l))
    listed v n x there from to isopen (r ∷ rs) h zero l e =
        ap (λ o. look (in_front price far o (row_of price far m rs)) v) (ap m.road e ∙ there)
        ∙ ap (λ row. look row v) (front_open x (row_of price far m rs) isopen)
        ∙ look_head ((far x).0, cost_of x) (row_of price far m rs) v to
    listed v n x there from to isopen (r ∷ rs) h (suc i) l e =
        by (listed v n x there from to isopen rs (λ j k. h (suc j) (omega (arith, k))) i (omega (arith, l)) e) (m.road r) refl
      where
        by : look (row_of price far m rs) v ≡ some (cost_of x) → (o : Option Road) → m.road r ≡ o → look (in_front price far o (row_of price far m rs)) v ≡ some (cost_of x)
        by rest None q = rest
        by rest (Some y) q = at y.mark refl
          where
            same : (far y).0 ≡ v → y ≡ x
            same p = let e = alone r n y x q there (near_is r y (h 0 (omega arith)) q ∙ sym from) (p ∙ sym to) in one_road m r y x q (ap m.road e ∙ there)

            at : (k : Mark) → y.mark ≡ k → look (cond (is_open k) (((far y).0, cost_of y) ∷ row_of price far m rs) (row_of price far m rs)) v ≡ some (cost_of x)
            at Closed k = rest
            at Open k = ⊎_elim (λ p. p.1 ∙ ap (λ z. some (cost_of z)) (same p.0)) (λ p. p.1 ∙ rest) (look_cases ((far y).0, cost_of y) (row_of price far m rs) v)

    -- no end comes twice
    pub none_twice : (rs : List ℕ) → AllNear rs → ((i j : ℕ) → i < length rs → j < length rs → get_or rs i 0 ≡ get_or rs j 0 → i ≡ j) → NoneTwice (ends (row_of price far m rs))
    none_twice [] h once = tt
    none_twice (r ∷ rs) h once =
        by (none_twice rs (λ j l. h (suc j) (omega (arith, l))) (λ i j k l e. let z = once (suc i) (suc j) (omega (arith, k)) (omega (arith, l)) e in omega (arith, z))) (m.road r) refl
      where
        by : NoneTwice (ends (row_of price far m rs)) → (o : Option Road) → m.road r ≡ o → NoneTwice (ends (in_front price far o (row_of price far m rs)))
        by rest None q = rest
        by rest (Some x) q = at x.mark
          where
            apart : Among (far x).0 (ends (row_of price far m rs)) → ⊥
            apart a =
                let k = end_of rs (far x).0 a in
                let e : r ≡ get_or rs k.index 0 =
                alone r (get_or rs k.index 0) x k.road q k.there
                (near_is r x (h 0 (omega arith)) q ∙ sym (near_is (get_or rs k.index 0) k.road (h (suc k.index) (omega (arith, k.within))) k.there)) (sym k.to) in
                let z = once 0 (suc k.index) (omega arith) (omega (arith, k.within)) e in
                omega (arith, z)

            at : (k : Mark) → NoneTwice (ends (cond (is_open k) (((far x).0, cost_of x) ∷ row_of price far m rs) (row_of price far m rs)))
            at Closed = rest
            at Open = (apart, rest)

module _ {K : Type 0} (plus : K → K → K) (nil : K) (price : ℕ → ℕ → K) (m : MapModel) (fits : WellFormed m) where
  pub start_known : (u v : ℕ) (c : K) → OpenRoad plus nil price m u v c → u < m.places
  start_known u v c x = subst (λ z. z < m.places) x.from (fits.road_fits x.number x.road x.there).start_known

  pub end_known : (u v : ℕ) (c : K) → OpenRoad plus nil price m u v c → v < m.places
  end_known u v c x = subst (λ z. z < m.places) x.to (fits.road_fits x.number x.road x.there).end_known

  alone_out : Alone m (λ x. x.start) (λ x. x.end)
  alone_out = fits.alone

  alone_in : Alone m (λ x. x.end) (λ x. x.start)
  alone_in r s x y e f h k = fits.alone r s x y e f k h

  -- the roads out of u
  pub look_open : (u v : ℕ) (c : K) → u < m.places → look (open_roads price m u) v ≡ some c → OpenRoad plus nil price m u v c
  look_open u v c l e =
      let k = found price m (λ x. x.start) (λ x. x.end) u v c (m.departures u) (fits.departs u l).only e in
      record { number = k.number; road = k.road; there = k.there; from = k.from; to = k.to; is_open = k.is_open; costs = k.costs }

  pub open_look : (u v : ℕ) (c : K) → OpenRoad plus nil price m u v c → look (open_roads price m u) v ≡ some c
  open_look u v c x =
      let l = start_known u v c x in
      let s = (fits.departs u l).all x.number x.road x.there x.from in
      listed price m (λ x. x.start) (λ x. x.end) u alone_out v x.number x.road x.there x.from x.to x.is_open (m.departures u) (fits.departs u l).only s.index s.within s.same
      ∙ ap some x.costs

  pub out_once : (u : ℕ) → u < m.places → NoneTwice (ends (open_roads price m u))
  out_once u l = none_twice price m (λ x. x.start) (λ x. x.end) u alone_out (m.departures u) (fits.departs u l).only (fits.departs u l).once

  pub out_known : (u v : ℕ) → Among v (ends (open_roads price m u)) → v < m.places
  out_known u v h =
      let k = end_of price m (λ x. x.start) (λ x. x.end) u (m.departures u) v h in
      subst (λ z. z < m.places) k.to (fits.road_fits (get_or (m.departures u) k.index 0) k.road k.there).end_known

  -- the roads into v
  pub look_into : (u v : ℕ) (c : K) → v < m.places → look (roads_into price m v) u ≡ some c → OpenRoad plus nil price m u v c
  look_into u v c l e =
      let k = found price m (λ x. x.end) (λ x. x.start) v u c (m.arrivals v) (fits.arrives v l).only e in
      record { number = k.number; road = k.road; there = k.there; from = k.to; to = k.from; is_open = k.is_open; costs = k.costs }

  pub into_look : (u v : ℕ) (c : K) → OpenRoad plus nil price m u v c → look (roads_into price m v) u ≡ some c
  into_look u v c x =
      let l = end_known u v c x in
      let s = (fits.arrives v l).all x.number x.road x.there x.to in
      listed price m (λ x. x.end) (λ x. x.start) v alone_in u x.number x.road x.there x.to x.from x.is_open (m.arrivals v) (fits.arrives v l).only s.index s.within s.same
      ∙ ap some x.costs

  pub into_once : (v : ℕ) → v < m.places → NoneTwice (ends (roads_into price m v))
  into_once v l = none_twice price m (λ x. x.end) (λ x. x.start) v alone_in (m.arrivals v) (fits.arrives v l).only (fits.arrives v l).once

  pub into_known : (v u : ℕ) → Among u (ends (roads_into price m v)) → u < m.places
  into_known v u h =
      let k = end_of price m (λ x. x.end) (λ x. x.start) v (m.arrivals v) u h in
      subst (λ z. z < m.places) k.to (fits.road_fits (get_or (m.arrivals v) k.index 0) k.road k.there).start_known

  -- the same of what a search is given
  abbrev pub price_now : ℕ → ℕ → Maybe K
  price_now u v = cond (ltb u m.places) (look (open_roads price m u) v) none

  pub price_out : (u : ℕ) → u < m.places → price_now u ≡ look (open_roads price m u)
  price_out u l = ap (λ b. λ v. cond b (look (open_roads price m u) v) none) (lt-ltb u m.places l)

  pub price_open : (u v : ℕ) (c : K) → price_now u v ≡ some c → OpenRoad plus nil price m u v c
  price_open u v c e = by (ltb u m.places) refl e
    where
      by : (b : Bool) → ltb u m.places ≡ b → cond b (look (open_roads price m u) v) none ≡ some c → OpenRoad plus nil price m u v c
      by true l e = look_open u v c (ltb-true u m.places l) e
      by false l e = absurd (none_some {K = K} none c refl e)

  pub open_price : (u v : ℕ) (c : K) → OpenRoad plus nil price m u v c → price_now u v ≡ some c
  open_price u v c x = ap (λ (f : ℕ → Maybe K). f v) (price_out u (start_known u v c x)) ∙ open_look u v c x

  pub price_into : (v : ℕ) → v < m.places → (λ (u : ℕ). price_now u v) ≡ look (roads_into price m v)
  price_into v l = λ i u. at u i
    where
      at : (u : ℕ) → price_now u v ≡ look (roads_into price m v) u
      at u = by (price_now u v) refl (look (roads_into price m v) u) refl
        where
          by : (a : Maybe K) → price_now u v ≡ a → (b : Maybe K) → look (roads_into price m v) u ≡ b → price_now u v ≡ look (roads_into price m v) u
          by (some c) e b f = e ∙ sym (into_look u v c (price_open u v c e))
          by none e none f = e ∙ sym f
          by none e (some c) f = absurd (none_some (price_now u v) c e (open_price u v c (look_into u v c l f)))

-- border places
module _ (m : MapModel) (d : ℕ) where
  some_leaves_at : (rs : List ℕ) (i : ℕ) → i < length rs → leaves m d (m.road (get_or rs i 0)) ≡ true → some_leaves m d rs ≡ true
  some_leaves_at [] i l e = absurd (omega (arith, l))
  some_leaves_at (r ∷ rs) zero l e = or_left _ _ e
  some_leaves_at (r ∷ rs) (suc i) l e = or_right (leaves m d (m.road r)) (some_leaves m d rs) (some_leaves_at rs i (omega (arith, l)) e)

module _ (m : MapModel) (fits : WellFormed m) (r : ℕ) (x : Road) (there : m.road r ≡ Some x) where
  pub border_start : (m.district x.start.0 ≡ m.district x.end.0 → ⊥) → is_border m x.start.0 ≡ true
  border_start n =
      let s = (fits.departs x.start.0 (fits.road_fits r x there).start_known).all r x there refl in
      or_left _ _ (some_leaves_at m (m.district x.start.0) (m.departures x.start.0) s.index s.within
      (ap (λ k. leaves m (m.district x.start.0) (m.road k)) s.same ∙ ap (leaves m (m.district x.start.0)) there
      ∙ or_right _ _ (not_from_false _ (ne_eqb (m.district x.end.0) (m.district x.start.0) (λ e. n (sym e))))))

  pub border_end : (m.district x.start.0 ≡ m.district x.end.0 → ⊥) → is_border m x.end.0 ≡ true
  border_end n =
      let s = (fits.arrives x.end.0 (fits.road_fits r x there).end_known).all r x there refl in
      or_right _ _ (some_leaves_at m (m.district x.end.0) (m.arrivals x.end.0) s.index s.within
      (ap (λ k. leaves m (m.district x.end.0) (m.road k)) s.same ∙ ap (leaves m (m.district x.end.0)) there
      ∙ or_left _ _ (not_from_false _ (ne_eqb (m.district x.start.0) (m.district x.end.0) n))))
