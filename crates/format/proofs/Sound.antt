-- The map in an accepted cartridge keeps the rules of maps.
use Rattle.std.proofs.Common.{◌≡◌, ℕ, ◌<◌, Bool, true, false, eqb, ltb, List, map, length, get_or, is_some, Some, None, Option, sym, refl, ap, ◌∙◌, subst, inl, inr, arith}
use Rattle.std.proofs.lemmas.List.{get_or-map, length-map}
use Rattle.std.proofs.lemmas.Bool.{cases_Bool, cases_order, eq-eqb, eqb-true, ltb-true, lt-ltb}
use Rattle.map.specs.declared.roads.Road.{Road}
use Rattle.map.specs.Model.{WellFormed, RoadFits, Lists, Inhabited}
use Rattle.format.specs.Bytes.{places, districts, roads}
use Rattle.format.specs.Picks.{picked, first}
use Rattle.format.specs.Reading.{accepts, map_in, district_of, road_of, arrival_of, arriving}
use Rattle.format.proofs.Picks.{Rising, found_in, picked_passing, picked_complete, picked_rising}
use Rattle.format.proofs.Pigeons.{Injects, all_taken}
use Rattle.format.proofs.Rising.{apart}
use Rattle.format.proofs.Accepted.{Facts, accepted_facts, road_limits, roads_rise, arrival_known, arrivals_rise}

-- a rising list names nothing twice
rising_once : (l : List ℕ) → Rising l → (i j : ℕ) → i < length l → j < length l → get_or l i 0 ≡ get_or l j 0 → i ≡ j
rising_once l h i j a b e = elim (cases_order i j) [
  | inl s ↦ s
  | inr (inl o) ↦ let k = h i j o b in absurd (omega arith)
  | inr (inr o) ↦ let k = h j i o a in absurd (omega arith)
]

module _ (b : List ℕ) (f : Facts b) where
  at_start : ℕ → ℕ → Bool
  at_start p r = eqb (road_of b r).start.0 p

  at_end : ℕ → ℕ → Bool
  at_end p i = eqb (arriving b i).end.0 p

  -- the road of a number below the count is there, and no other is
  there : (r : ℕ) → r < roads b → (map_in b).road r ≡ Some (road_of b r)
  there r l = rw (lt-ltb r (roads b) l)

  is_road : (r : ℕ) (x : Road) → (map_in b).road r ≡ Some x → (r < roads b) × (road_of b r ≡ x)
  is_road r x e = elim (cases_Bool (ltb r (roads b))) [
    | inl t ↦ let k : ◌≡◌ {A = Option Road} (Some (road_of b r)) (Some x) = rw t at e in (ltb-true r (roads b) t, cc)
    | inr t ↦ let k : ◌≡◌ {A = Option Road} None (Some x) = rw t at e in let z : ◌≡◌ {A = ℕ} 0 1 = cc in absurd (omega arith)
  ]

  departures_list : (p : ℕ) → Lists (map_in b) (λ x. x.start) p (picked (λ r. eqb (road_of b r).start.0 p) 0 (roads b))
  departures_list p = record {
    only = λ j l. let h = picked_passing (λ r. eqb (road_of b r).start.0 p) 0 (roads b) j l in
        let u = h.0.below in
        record { is = road_of b _; there = there _ (omega arith); touches = eqb-true _ _ h.1 };
    once = rising_once _ (picked_rising (λ r. eqb (road_of b r).start.0 p) 0 (roads b));
    all = λ r x e t. let k = is_road r x e in let l = k.0 in
        picked_complete (λ r. eqb (road_of b r).start.0 p) 0 (roads b) r (record { from = omega arith; below = omega arith })
        (eq-eqb _ _ (ap (λ (y : Road). y.start.0) k.1 ∙ t));
  }

  -- the arrivals name different roads, so all of them
  arrivals_differ : Injects (roads b) (arrival_of b)
  arrivals_differ = record {
    below = arrival_known b f;
    differ = λ i j k l e. apart (λ i. (arriving b i).end.0) (λ i. (arriving b i).start.0) (roads b) (arrivals_rise b f) i j k l
        (ap (λ r. (road_of b r).end.0) e) (ap (λ r. (road_of b r).start.0) e);
  }

  module _ (p : ℕ) where
    indices : List ℕ
    indices = picked (λ i. eqb (arriving b i).end.0 p) 0 (roads b)

  arrivals_list : (p : ℕ) → Lists (map_in b) (λ x. x.end) p (map (arrival_of b) (picked (λ i. eqb (arriving b i).end.0 p) 0 (roads b)))
  arrivals_list p = record {
    only = λ j l.
        let l' : j < length is = rw length-map at l in
        let h = picked_passing at 0 (roads b) j l' in
        let u = h.0.below in
        let e = get_or-map (arrival_of b) is j 0 0 l' in
        rw e (record { is = arriving b (get_or is j 0); there = there _ (arrival_known b f _ (omega arith)); touches = eqb-true _ _ h.1 });
    once = λ i j k l e.
        let k' : i < length is = rw length-map at k in
        let l' : j < length is = rw length-map at l in
        let a = (picked_passing at 0 (roads b) i k').0.below in
        let c = (picked_passing at 0 (roads b) j l').0.below in
        rising_once is (picked_rising at 0 (roads b)) i j k' l'
        (arrivals_differ.differ _ _ (omega arith) (omega arith) (sym (get_or-map (arrival_of b) is i 0 0 k') ∙ e ∙ get_or-map (arrival_of b) is j 0 0 l'));
    all = λ r x e t.
        let k = is_road r x e in
        let w = all_taken (roads b) r k.0 (arrival_of b) arrivals_differ in
        let v = w.within in
        let s = picked_complete at 0 (roads b) w.from (record { from = omega arith; below = omega arith })
        (eq-eqb _ _ (ap (λ q. (road_of b q).end.0) w.gives ∙ ap (λ (y : Road). y.end.0) k.1 ∙ t)) in
        let u = s.within in
        record {
          index = s.index;
          within = rw length-map u;
          same = get_or-map (arrival_of b) is s.index 0 0 u ∙ ap (arrival_of b) s.same ∙ w.gives;
        };
  }
    where
      at : ℕ → Bool
      at i = eqb (arriving b i).end.0 p

      is : List ℕ
      is = picked at 0 (roads b)

  inhabited : (d : ℕ) → d < districts b → Inhabited (map_in b) d
  inhabited d l = from (first (λ p. eqb (district_of b p) d) 0 (places b)) refl (f.inhabited d l)
    where
      from : (o : Option ℕ) → first (λ p. eqb (district_of b p) d) 0 (places b) ≡ o → is_some (first (λ p. eqb (district_of b p) d) 0 (places b)) ≡ true → Inhabited (map_in b) d
      from (Some p) e t = let h = found_in (λ p. eqb (district_of b p) d) 0 (places b) p e in
          let u = h.0.below in
          record { place = p; inhabits = record { known = omega arith; there = eqb-true _ _ h.1 } }
      from None e t = let z : ◌≡◌ {A = Bool} false true = rw e at t in let q : ◌≡◌ {A = ℕ} 0 1 = cc in absurd (omega arith)

  well_formed : WellFormed (map_in b)
  well_formed = record {
    some_place = f.range.some_place;
    few_places = f.range.few_places;
    some_district = f.range.some_district;
    few_districts = f.range.few_districts;
    few_roads = f.range.few_roads;
    district_known = f.known;
    no_empty_district = inhabited;
    road_fits = λ r x e. let k = is_road r x e in let h = road_limits b f r k.0 in
        subst (RoadFits (map_in b) r) k.1 (record {
          numbered = k.0;
          start_known = h.start_known;
          end_known = h.end_known;
          no_loop = h.no_loop;
          short = h.short;
          mild = h.mild;
        });
    alone = λ r s x y e g h k.
        let i = is_road r x e in let j = is_road s y g in
        apart (λ r. (road_of b r).start.0) (λ r. (road_of b r).end.0) (roads b) (roads_rise b f) r s i.0 j.0
        (ap (λ (z : Road). z.start.0) i.1 ∙ h ∙ sym (ap (λ (z : Road). z.start.0) j.1))
        (ap (λ (z : Road). z.end.0) i.1 ∙ k ∙ sym (ap (λ (z : Road). z.end.0) j.1));
    departs = λ p l. departures_list p;
    arrives = λ p l. arrivals_list p;
  }

-- A cartridge that is accepted holds a map that keeps the rules.
pub accepted_keeps_rules : (b : List ℕ) → accepts b ≡ true → WellFormed (map_in b)
accepted_keeps_rules b e = well_formed b (accepted_facts b e)
