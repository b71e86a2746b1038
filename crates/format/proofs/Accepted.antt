-- What an accepted cartridge keeps, fact by fact.
use Rattle.std.proofs.Common.{◌≡◌, ℕ, suc, ◌+◌, ◌*◌, ◌<◌, ◌≤◌, Bool, true, false, not, ◌&&◌, eqb, ltb, leb, List, [], ◌∷◌, length, is_some, Some, None, Option, refl, arith}
use Rattle.std.specs.Option.{option_map}
use Rattle.std.proofs.lemmas.Bool.{not-false, leb-true, ltb-true, and_parts}
use Rattle.std.proofs.lemmas.Bool.Decides.{nat_tests}
use Rattle.map.specs.declared.roads.Road.{Road}
use Rattle.format.specs.declared.Refusal.{Refusal}
use Rattle.format.specs.declared.Refusal.TheVariants.{Cut, WrongTag, WrongLength}
use Rattle.format.specs.Bytes.{byte, number, places, districts, roads, whole}
use Rattle.format.specs.Picks.{first}
use Rattle.format.specs.Reading.{and_then, unless, field, walked, fields, counts, contents, known_districts, inhabited_districts, right_roads, right_arrivals, judged, accepts, district_of, has_place, road_of, arrival_of, arriving, right_road, right_arrival, within_limits, rises_by_start, rises_by_end, previous}
use Rattle.format.proofs.Picks.{none_of}
use Rattle.format.proofs.Rising.{Steps, before_holds}

-- neither of two judgements refuses
both_pass : (x y : Option Refusal) → and_then x y ≡ None → (x ≡ None) × (y ≡ None)
both_pass None y e = (refl, e)
both_pass (Some r) y e = let z : ◌≡◌ {A = ℕ} 0 1 = cc in absurd (omega arith)

passes : (t : Bool) (r : Refusal) → unless t r ≡ None → t ≡ true
passes true r e = refl
passes false r e = let z : ◌≡◌ {A = ℕ} 0 1 = cc in absurd (omega arith)

mapped_none : {A : Type 0} (f : A → Refusal) (o : Option A) → option_map f o ≡ None → o ≡ None
mapped_none f None e = refl
mapped_none f (Some x) e = let z : ◌≡◌ {A = ℕ} 0 1 = cc in absurd (omega arith)

-- a field that is not refused has its body
pub field_there : (b : List ℕ) (offset tag size : ℕ) → field b offset tag size ≡ None → offset + 3 + size ≤ length b
field_there b offset tag size e =
    let k = (both_pass (unless (leb (offset + 3) (length b)) (Cut offset)) _ e).1 in
    let l = (both_pass (unless (eqb (byte b offset) tag) (WrongTag offset)) _ k).1 in
    let m = (both_pass (unless (eqb (number b (offset + 1)) size) (WrongLength offset)) _ l).1 in
    leb-true _ _ (passes (leb (offset + 3 + size) (length b)) (Cut offset) m)

-- every index below the count passes, where the first that does not was not found
all_pass : (P : ℕ → Bool) (n : ℕ) (f : ℕ → Refusal) → option_map f (first (λ i. not (P i)) 0 n) ≡ None → (i : ℕ) → i < n → P i ≡ true
all_pass P n f e i l = not-false (P i) (none_of (λ i. not (P i)) 0 n (mapped_none f _ e) i (omega arith) (omega arith))

-- The counts of places, districts and roads are in range.
pub record InRange (n k m : ℕ) : Type 0 where
  pub some_place : 1 ≤ n
  pub few_places : n ≤ 1024
  pub some_district : 1 ≤ k
  pub few_districts : k ≤ 64
  pub few_roads : m ≤ 4096

ranged : (n k m : ℕ) → (leb 1 n && leb n 1024 && leb 1 k && leb k 64 && leb m 4096) ≡ true → InRange n k m
ranged n k m t = record {
  some_place = grind (arith, nat_tests);
  few_places = grind (arith, nat_tests);
  some_district = grind (arith, nat_tests);
  few_districts = grind (arith, nat_tests);
  few_roads = grind (arith, nat_tests);
}

pub in_range : (b : List ℕ) → counts b ≡ None → InRange (places b) (districts b) (roads b)
in_range b e = ranged (places b) (districts b) (roads b) (passes _ _ e)

-- The facts of an accepted cartridge.
pub record Facts (b : List ℕ) : Type 0 where
  pub long : whole b ≤ length b
  pub range : InRange (places b) (districts b) (roads b)
  pub known : (p : ℕ) → p < places b → district_of b p < districts b
  pub inhabited : (d : ℕ) → d < districts b → has_place b d ≡ true
  pub road : (r : ℕ) → r < roads b → right_road b r ≡ true
  pub arrival : (i : ℕ) → i < roads b → right_arrival b i ≡ true

-- where fields end that begin at an offset
abbrev after : ℕ → List (ℕ × ℕ) → ℕ
after offset [] = offset
after offset (f ∷ rest) = after (offset + 3 + f.1) rest

-- fields that were walked are there
walked_there : (b : List ℕ) (offset : ℕ) (fs : List (ℕ × ℕ)) → offset ≤ length b → walked b offset fs ≡ None → after offset fs ≤ length b
walked_there b offset [] h e = h
walked_there b offset (f ∷ fs) h e =
    let k = both_pass (field b offset f.0 f.1) (walked b (offset + 3 + f.1) fs) e in
    walked_there b (offset + 3 + f.1) fs (field_there b offset f.0 f.1 k.0) k.1

pub all_there : (b : List ℕ) → fields b ≡ None → whole b ≤ length b
unfolding fields
all_there b e = let h = walked_there b 0 ((1, 5) ∷ (2, places b) ∷ (3, 8 * roads b) ∷ (4, 2 * roads b) ∷ (15, 0) ∷ []) (omega arith) e in omega arith

pub facts : (b : List ℕ) → judged b ≡ None → Facts b
unfolding judged
facts b e =
    let c = both_pass (fields b) (contents b) e in
    let c1 = both_pass (counts b) _ c.1 in
    let c2 = both_pass (known_districts b) _ c1.1 in
    let c3 = both_pass (inhabited_districts b) _ c2.1 in
    let c4 = both_pass (right_roads b) (right_arrivals b) c3.1 in
    record {
      long = all_there b c.0;
      range = in_range b c1.0;
      known = λ p l. ltb-true _ _ (all_pass (λ p. ltb (district_of b p) (districts b)) (places b) _ c2.0 p l);
      inhabited = all_pass (has_place b) (districts b) _ c3.0;
      road = all_pass (right_road b) (roads b) _ c4.0;
      arrival = all_pass (right_arrival b) (roads b) _ c4.1;
    }

-- what is accepted has nothing wrong with it, and the other way round
unrefused : (o : Option Refusal) → not (is_some o) ≡ true → o ≡ None
unrefused None e = refl
unrefused (Some r) e = let z : ◌≡◌ {A = ℕ} 0 1 = cc in absurd (omega arith)

pub accepted_facts : (b : List ℕ) → accepts b ≡ true → Facts b
accepted_facts b e = facts b (unrefused (judged b) e)

pub none_accepted : (b : List ℕ) → judged b ≡ None → accepts b ≡ true
none_accepted b e = rw e

-- The limits of a road, as facts.
pub record Limits (n : ℕ) (x : Road) : Type 0 where
  pub start_known : x.start.0 < n
  pub end_known : x.end.0 < n
  pub no_loop : x.start.0 ≡ x.end.0 → ⊥
  pub short : x.seconds ≤ 60000
  pub mild : x.steepness ≤ 1000

limits : (n s e c g : ℕ) → (ltb s n && ltb e n && not (eqb s e) && leb c 60000 && leb g 1000) ≡ true →
    (s < n) × (e < n) × (s ≡ e → ⊥) × (c ≤ 60000) × (g ≤ 1000)
limits n s e c g t = (grind (arith, nat_tests), grind (arith, nat_tests), (λ q. grind (arith, nat_tests)), grind (arith, nat_tests), grind (arith, nat_tests))

module _ (b : List ℕ) (f : Facts b) where
  pub road_limits : (r : ℕ) → r < roads b → Limits (places b) (road_of b r)
  road_limits r l =
      let x = road_of b r in
      let h = limits (places b) x.start.0 x.end.0 x.seconds x.steepness (and_parts (within_limits (places b) x) (rises_by_start (previous (road_of b) r) x) (f.road r l)).0 in
      record { start_known = h.0; end_known = h.1; no_loop = h.2; short = h.3; mild = h.4 }

  pub roads_rise : Steps (λ r. (road_of b r).start.0) (λ r. (road_of b r).end.0) (roads b)
  roads_rise r l = before_holds _ _ _ _ (and_parts (within_limits (places b) (road_of b (suc r))) (rises_by_start (Some (road_of b r)) (road_of b (suc r))) (f.road (suc r) l)).1

  pub arrival_known : (i : ℕ) → i < roads b → arrival_of b i < roads b
  arrival_known i l = ltb-true _ _ (and_parts (ltb (arrival_of b i) (roads b)) (rises_by_end (previous (arriving b) i) (arriving b i)) (f.arrival i l)).0

  pub arrivals_rise : Steps (λ i. (arriving b i).end.0) (λ i. (arriving b i).start.0) (roads b)
  arrivals_rise i l = before_holds _ _ _ _ (and_parts (ltb (arrival_of b (suc i)) (roads b)) (rises_by_end (Some (arriving b i)) (arriving b (suc i))) (f.arrival (suc i) l)).1
