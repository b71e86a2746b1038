-- The search on what a question is asked about answers as promised.
use Rattle.std.proofs.Common.{◌≡◌, ℕ, ◌<◌, Bool, true, false, ◌&&◌, ◌⊎◌, List, [], ◌∷◌, Some, None, sym, refl, ap, ◌∙◌, subst, subst₂, inl, inr}
use mathlib.Core.Option.{Option as Maybe, some, none}
use Rattle.std.proofs.lemmas.Bool.{and_parts}
use Rattle.fringe.specs.Orders.{TotalOrder}
use Rattle.map.specs.Model.{MapModel, WellFormed}
use Rattle.measure.specs.Costs.{AtMost, CostLaws}
use Rattle.routes.specs.Promise.{OpenRoad, LeastRoute, LeastCost}
use Rattle.routes.specs.Promise as promise
use Rattle.routes.specs.Prepared.{SumOfRoads, Crosses}
use Rattle.routes.specs.Asking.{Table, given, is_border, Consistent, Promised}
use Rattle.routes.specs.Costs.{Costs, Priced}
use Rattle.routes.specs.Walks.{Roads, Walk, Way}
use Rattle.routes.specs.Routes.{Route}
use Rattle.routes.specs.Worlds.{Lawful}
use Rattle.routes.specs.Scales.{Scale}
use Rattle.routes.specs.Search.{Ops, ops_of, Given, Both, search_best, route, answer}
use Rattle.routes.specs.Asked.{world, Paired, Answered}
use Rattle.routes.specs.Measured
use Rattle.routes.proofs.Sums
use Rattle.routes.proofs.Tables
use Rattle.routes.proofs.Gate.{none_some, some_one}
use Rattle.routes.proofs.MapRoads
use Rattle.routes.proofs.Answered as answers

-- walks over more roads
over : (C : Costs) (E F : Roads C) → ((u v : ℕ) (p : C.Cost) → E u v p → F u v p) → {a b : ℕ} {c : C.Cost} → Walk C E a b c → Walk C F a b c
over C E F h Walk.stay = Walk.stay
over C E F h (Walk.go {a} {b} {p = p} r w) = Walk.go (h a b p r) (over C E F h w)

module _ {K T : Type 0} (thing : K → T) (leq : T → T → Bool) (order : TotalOrder leq)
    (plus : K → K → K) (nil blocked : K) (price : ℕ → ℕ → K) (code : K → ℕ) (laws : CostLaws thing leq plus nil blocked price code) where
  abbrev pub costs : Costs
  costs = Measured.costs_of thing leq order plus nil blocked price code laws

  abbrev pub scale : Scale costs
  scale = Measured.scale_of thing leq order plus nil blocked price code laws

  abbrev pub operations : Ops K
  operations = ops_of thing leq plus nil blocked

  -- the open roads of a map
  abbrev pub roads_of : MapModel → Roads costs
  roads_of m = λ u v c. OpenRoad plus nil price m u v c

  -- a sum of the costs of few roads
  pub priced_sum : (k : ℕ) (c : K) → SumOfRoads thing leq plus nil blocked price k c → Priced costs k c
  priced_sum k c s = (s.roads, s.few, Measured.both_at_most thing leq order plus nil blocked price code laws _ _ s.sum)

  module _ (m : MapModel) (fits : WellFormed m) where
    -- walks are routes
    pub walk_route : {a b : ℕ} {c : K} → a < m.places → Walk costs (roads_of m) a b c → (l : List ℕ) × promise.Route plus nil price m a b l c
    walk_route {a} l Walk.stay = (a ∷ [], promise.stay l)
    walk_route l (Walk.go {a} {b} {p = p} r w) =
        let k = walk_route (MapRoads.end_known plus nil price m fits a b p r) w in (a ∷ k.0, promise.go r k.1)

    pub route_walk : {a b : ℕ} {l : List ℕ} {c : K} → promise.Route plus nil price m a b l c → Walk costs (roads_of m) a b c
    route_walk (promise.stay l) = Walk.stay
    route_walk (promise.go r w) = Walk.go r (route_walk w)

    -- routes with their places
    pub course : (E : Roads costs) → ((u v : ℕ) (p : K) → E u v p → OpenRoad plus nil price m u v p) →
        {a b : ℕ} {l : List ℕ} {c : K} → a < m.places → Route costs E a b l c → promise.Route plus nil price m a b l c
    course E h i Route.end = promise.stay i
    course E h i (Route.go {a} {b} {p = p} r w) =
        promise.go (h a b p r) (course E h (MapRoads.end_known plus nil price m fits a b p (h a b p r)) w)

    pub priced_road : (u v : ℕ) (p : K) → OpenRoad plus nil price m u v p → Priced costs 1 p
    priced_road u v p x =
        let f = fits.road_fits x.number x.road x.there in
        subst (Priced costs 1) x.costs (Sums.priced_one costs (record { seconds = x.road.seconds; steepness = x.road.steepness; short = f.short; mild = f.mild }))

  module _ (now base : MapModel) (table : Table K) (empty : Bool) (q : Consistent thing leq plus nil blocked price now base table empty) where
    abbrev pub G : Given K
    G = given nil price now base table empty

    abbrev E : Roads costs
    E = λ u v p. G.price u v ≡ some p

    road_now : (u v : ℕ) (p : K) → E u v p → OpenRoad plus nil price now u v p
    road_now = MapRoads.price_open plus nil price now q.now_fits

    -- the base road below a road
    below : (u v : ℕ) (p : K) → OpenRoad plus nil price now u v p → (c : K) × OpenRoad plus nil price base u v c × AtMost thing leq c p
    below u v p x =
        let o = q.layered.overlaid x.number x.road x.there in
        let f = q.now_fits.road_fits x.number x.road x.there in (
          price o.was.seconds o.was.steepness,
          record { number = x.number; road = o.was; there = o.there; from = sym o.start ∙ x.from; to = sym o.end ∙ x.to; is_open = o.open_below x.is_open; costs = refl },
          subst (AtMost thing leq _) x.costs
              (subst (λ z. AtMost thing leq (price o.was.seconds z) (price x.road.seconds x.road.steepness)) o.steepness
              (laws.slower o.was.seconds x.road.seconds x.road.steepness o.slower f.short f.mild)),
        )

    crossing : (u v : ℕ) (p : K) → OpenRoad plus nil price now u v p → (base.district u ≡ base.district v → ⊥) → (is_border base u ≡ true) × (is_border base v ≡ true)
    crossing u v p x n =
        let o = q.layered.overlaid x.number x.road x.there in
        let s : o.was.start.0 ≡ u = sym o.start ∙ x.from in
        let e : o.was.end.0 ≡ v = sym o.end ∙ x.to in
        let far = λ (h : base.district o.was.start.0 ≡ base.district o.was.end.0). n (subst₂ (λ y z. base.district y ≡ base.district z) s e h) in (
          subst (λ z. is_border base z ≡ true) s (MapRoads.border_start base q.base_fits x.number o.was o.there far),
          subst (λ z. is_border base z ≡ true) e (MapRoads.border_end base q.base_fits x.number o.was o.there far),
        )

    idle : (i j : ℕ) → table.prepared i ≡ false → G.entry i j ≡ nil
    idle i j e = ap (λ b. elim b as (λ _. K) [ true ↦ table.entry i j | false ↦ nil ]) e

    made : (i j : ℕ) → table.prepared i ≡ true → G.entry i j ≡ table.entry i j
    made i j e = ap (λ b. elim b as (λ _. K) [ true ↦ table.entry i j | false ↦ nil ]) e

    in_base : (a : ℕ) → a < now.places → a < base.places
    in_base a l = subst (λ z. a < z) q.layered.places l

    crosses : {a b : ℕ} {c : K} → a < now.places → b < now.places → Walk costs (roads_of base) a b c →
        (l : List ℕ) × Crosses thing leq plus nil blocked price base (base.district a) (base.district b) a b l c
    crosses {a} {b} i j w =
        let r = walk_route base q.base_fits (in_base a i) w in
        (r.0, record { from = record { known = in_base a i; there = refl }; to = record { known = in_base b j; there = refl }; route = r.1 })

    stands_blocked : (c : K) → AtMost thing leq blocked c → thing c ≡ thing blocked
    stands_blocked c h = order.antisym_leq (thing c) (thing blocked) (laws.greatest c) h

    few_listed : (c : K) → (thing c ≡ thing blocked) ⊎ SumOfRoads thing leq plus nil blocked price 1024 c → AtMost thing leq blocked c ⊎ Priced costs 1024 c
    few_listed c (inl e) = inl (Measured.both_at_most thing leq order plus nil blocked price code laws c blocked e).1
    few_listed c (inr s) = inr (priced_sum 1024 c s)

    pub lawful : Lawful costs (world costs G (roads_of base))
    lawful = record {
      small = q.now_fits.few_places;
      inside = λ u v p e. (MapRoads.start_known plus nil price now q.now_fits u v p (road_now u v p e), MapRoads.end_known plus nil price now q.now_fits u v p (road_now u v p e));
      prices = λ u v p e. priced_road now q.now_fits u v p (road_now u v p e);
      single = λ u v p c e f. some_one (G.price u v) p c e f;
      base = λ u v p e. below u v p (road_now u v p e);
      crossing = λ u v p e n. crossing u v p (road_now u v p e) n;
      low = Tables.low costs (roads_of base) now.places base.district table.prepared G.entry idle
          (λ a b c p i j w. let k = crosses i j w in
          subst (λ z. AtMost thing leq z c) (sym (made _ _ p)) ((q.rows (base.district a) p).least (base.district b) a b k.0 c k.1));
      none = Tables.none costs (roads_of base) now.places base.district table.prepared G.entry idle
          (λ a b c p i j w e. let k = crosses i j w in
          (q.rows (base.district a) p).linked (base.district b) a b k.0 c k.1 (stands_blocked _ (subst (AtMost thing leq blocked) (made _ _ p) e)));
      listed = Tables.listed costs (roads_of base) now.places base.district table.prepared G.entry idle
          (λ a b p i j. subst (λ z. AtMost thing leq blocked z ⊎ Priced costs 1024 z) (sym (made _ _ p))
          (few_listed _ ((q.rows (base.district a) p).few (base.district b) (q.base_fits.district_known b (in_base b j)))));
    }

    -- where the layers are empty the base roads are the roads now
    risen : empty ≡ true → (u v : ℕ) (p : K) → OpenRoad plus nil price base u v p → E u v p
    risen e u v p x = MapRoads.open_price plus nil price now q.now_fits u v p
        (record { number = x.number; road = x.road; there = q.unchanged e x.number ∙ x.there; from = x.from; to = x.to; is_open = x.is_open; costs = x.costs })

    pub paired : Paired costs G
    paired i j a b = by (table.prepared i && empty) refl
      where
        by : (b' : Bool) → (table.prepared i && empty) ≡ b' → ◌≡◌ {A = Maybe (ℕ × ℕ)} (elim b' [ true ↦ table.pair i j | false ↦ none ]) (some (a, b)) → Way costs E a b (G.entry i j)
        by false e h = absurd (none_some {K = ℕ × ℕ} none (a, b) refl h)
        by true e h =
            let p = and_parts (table.prepared i) empty e in
            let k = (q.rows i p.0).paired j a b h in
            subst (Way costs E a b) (sym (made i j p.0))
            (k.sum, over costs (roads_of base) E (risen p.1) (route_walk base q.base_fits k.crosses.route), Measured.both_at_most thing leq order plus nil blocked price code laws _ _ k.costs)

    -- the answer is the one promised
    module _ (s t : ℕ) (ls : s < now.places) (lt : t < now.places) where
      abbrev end : Both K
      end = search_best operations G s t

      asked : Answered costs scale G s t
      asked = answers.answered costs scale G (roads_of base) lawful paired s t ls lt

      seen : {l : List ℕ} {w : K} → promise.Route plus nil price now s t l w → Walk costs E s t w
      seen r = over costs (roads_of now) E (MapRoads.open_price plus nil price now q.now_fits) (route_walk now q.now_fits r)

      pub answered : LeastCost plus nil price now thing leq s t (answer operations G s t).found
      answered = by (leq (thing blocked) (thing end.best)) refl
        where
          by : (b : Bool) → leq (thing blocked) (thing end.best) ≡ b →
              LeastCost plus nil price now thing leq s t (elim b [ true ↦ None | false ↦ Some (end.best, route now.places end) ])
          by true e = λ l w r. asked.least.open_way w (seen r) e
          by false e =
              let n = scale.leq_false blocked end.best e in
              let c = asked.way n in
              record {
                sum = c.0;
                route = course now q.now_fits E road_now ls c.1;
                costs = Measured.one_thing thing leq order plus nil blocked price code laws _ _ c.2;
                none_twice = asked.no_twice n;
                least = λ l w r. asked.least.lower w (seen r);
              }

  pub promised : Promised thing leq plus nil blocked price
  promised = answered
