-- The entries at a place, from where they begin, are what the place lists.
use Rattle.std.proofs.Common.{◌≡◌, ℕ, ◌+◌, ◌-◌, ◌<◌, ◌≤◌, ◌⊎◌, List, length, get_or, map, cond, nat_lt, IfSome, Some, None, Option, ap, sym, subst, ◌∙◌, inl, inr, arith}
use Rattle.std.specs.Option.{option_map}
use Rattle.std.proofs.lemmas.List.{get_or-map, length-map, map-id}
use Rattle.std.proofs.lemmas.Bool.{cases_lt, lt-ltb, le-ltb, ne_eqb}
use Rattle.map.specs.declared.numbers.RoadId.{RoadId}
use Rattle.map.specs.Model.{listed_at}
use Rattle.format.specs.Bytes.{places, roads}
use Rattle.format.specs.Picks.{picked}
use Rattle.format.specs.Reading.{road_of, arrival_of, arriving, map_in}
use Rattle.format.proofs.Accepted.{Facts, roads_rise, arrivals_rise, road_limits, arrival_known}
use Rattle.format.proofs.Picks.{Climbs as ClimbsFrom, keyed, picked_skip, run_in, run_out}
use Rattle.format.proofs.Rising.{climbing}
use Rattle.cartridge.specs.Listings.{Climbs, Begins, NthOf}

module _ (key : ℕ → ℕ) (n p first : ℕ) (c : Climbs key n) (h : Begins key n p first) where
  run : picked (keyed key p) 0 n ≡ picked (keyed key p) first (n - first)
  run = let w = h.within in let e : first + (n - first) ≡ n = omega arith in
      let z : 0 + first ≡ first = omega arith in
      let s = picked_skip (keyed key p) first 0 (n - first) (λ i l u. let k = h.below i (omega arith) in ne_eqb (key i) p (λ q. omega arith)) in
      rw (e, z) at s

  climbs : ClimbsFrom key p first (n - first)
  climbs = let w = h.within in record {
    least = λ i k. let l = k.from in let u = k.below in h.from i l (omega arith);
    climbs = λ i j k l m. let u = m.below in c i j l (omega arith);
  }

  index_in : (j : ℕ) → first + j < n → key (first + j) ≡ p → (j < length (picked (keyed key p) 0 n)) × (get_or (picked (keyed key p) 0 n) j 0 ≡ first + j)
  index_in j l e = rw run (run_in key p first (n - first) j climbs (omega arith) e)

  index_out : (j : ℕ) → (n ≤ first + j) ⊎ (key (first + j) ≡ p → ⊥) → length (picked (keyed key p) 0 n) ≤ j
  index_out j o = rw run (run_out key p first (n - first) j climbs (past o))
    where
      past : (n ≤ first + j) ⊎ (key (first + j) ≡ p → ⊥) → (n - first ≤ j) ⊎ (key (first + j) ≡ p → ⊥)
      past (inl l) = inl (omega arith)
      past (inr k) = inr k

-- each place lists the entries at it, and none is at a place past the last
module _ (key entry : ℕ → ℕ) (n places : ℕ) (c : Climbs key n) (small : (i : ℕ) → i < n → key i < places) (p j : ℕ) where
  list : ℕ → List ℕ
  list q = map entry (picked (keyed key q) 0 n)

  pub answers : (r : Option ℕ) → NthOf key n p j r → option_map (λ i. let x : RoadId = record { 0 = entry i } in x) r ≡ listed_at places (λ q. map entry (picked (keyed key q) 0 n)) p j
  answers None h = elim (cases_lt p places) [
    | inl l ↦ let k : length (map entry (picked (keyed key p) 0 n)) ≤ j = rw length-map (index_out key n p h.0 c h.1 j h.2) in
        rw (lt-ltb p places l, le-ltb j (length (map entry (picked (keyed key p) 0 n))) k)
    | inr l ↦ rw (le-ltb p places l)
  ]
  answers (Some i) h =
      let e = h.2.0 in let l = h.2.1 in let k = h.2.2 in
      let m : key (h.0 + j) ≡ p = ap key (sym e) ∙ k in
      let x = index_in key n p h.0 c h.1 j (omega arith) m in
      let q : p < places = subst (λ v. v < places) k (small i l) in
      let y : j < length (map entry (picked (keyed key p) 0 n)) = rw length-map x.0 in
      let z : get_or (map entry (picked (keyed key p) 0 n)) j 0 ≡ entry i = get_or-map entry _ j 0 0 x.0 ∙ ap entry (x.1 ∙ sym e) in
      rw (lt-ltb p places q, lt-ltb j (length (map entry (picked (keyed key p) 0 n))) y, z)

module _ (b : List ℕ) (f : Facts b) where
  pub starts_climb : Climbs (λ r. (road_of b r).start.0) (roads b)
  starts_climb i j l u = climbing (λ r. (road_of b r).start.0) (λ r. (road_of b r).end.0) (roads b) (roads_rise b f) i j l u

  pub ends_climb : Climbs (λ i. (arriving b i).end.0) (roads b)
  ends_climb i j l u = climbing (λ i. (arriving b i).end.0) (λ i. (arriving b i).start.0) (roads b) (arrivals_rise b f) i j l u

  pub departs : (p j : ℕ) (r : Option ℕ) → NthOf (λ r. (road_of b r).start.0) (roads b) p j r →
      option_map (λ r. let x : RoadId = record { 0 = r } in x) r ≡ listed_at (places b) (map_in b).departures p j
  departs p j r h = simp map-id at (answers (λ r. (road_of b r).start.0) (λ r. r) (roads b) (places b) starts_climb (λ r l. (road_limits b f r l).start_known) p j r h)

  pub arrives : (p j : ℕ) (r : Option ℕ) → NthOf (λ i. (arriving b i).end.0) (roads b) p j r →
      option_map (λ i. let x : RoadId = record { 0 = arrival_of b i } in x) r ≡ listed_at (places b) (map_in b).arrivals p j
  arrives p j r h = answers (λ i. (arriving b i).end.0) (arrival_of b) (roads b) (places b) ends_climb
      (λ i l. (road_limits b f (arrival_of b i) (arrival_known b f i l)).end_known) p j r h

-- the place at which the road r ends, if there is one
abbrev pub end_known : List ℕ → ℕ → Option ℕ
end_known b r = cond (nat_lt r (roads b)) (Some (road_of b r).end.0) None

-- numbers that are read from entries
pub numbered : (o : Option ℕ) (r : Option RoadId) (n : ℕ) (f e : ℕ → ℕ) → IfSome o (λ i. i < n) → ((i : ℕ) → i < n → f i ≡ e i) →
    r ≡ option_map (λ i. let x : RoadId = record { 0 = f i } in x) o → r ≡ option_map (λ i. let x : RoadId = record { 0 = e i } in x) o
numbered None r n f e l h m = m
numbered (Some i) r n f e l h m = m ∙ ap (λ v. let x : RoadId = record { 0 = v } in Some x) (h i l)
