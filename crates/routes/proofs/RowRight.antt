-- A row that is filled from the end of a spread over the base map holds.
use Rattle.std.proofs.Common.{◌≡◌, ℕ, ◌<◌, ◌≤◌, Bool, ◌⊎◌, List, [], ◌∷◌, sym, refl, ap, ◌∙◌, subst, subst₂, inl, inr, ⊎_elim, arith}
use native.Mathlib.Decide.{ℕ_discrete}
use mathlib.Core.Option.{Option as Maybe, some, none}
use Rattle.std.proofs.lemmas.Bool.{cases_lt}
use Rattle.fringe.specs.Orders.{TotalOrder}
use Rattle.map.specs.Model.{MapModel, WellFormed, Inhabits}
use Rattle.measure.specs.Costs.{AtMost, CostLaws}
use Rattle.routes.specs.Promise.{OpenRoad}
use Rattle.routes.specs.Promise as promise
use Rattle.routes.specs.Prepared.{SumOfRoads, Crosses, Joined, RowHolds}
use Rattle.routes.specs.Costs.{Costs, Priced, Same}
use Rattle.routes.specs.Walks.{Roads, Walk, Way}
use Rattle.routes.specs.States.{Label, IsSettled}
use Rattle.routes.specs.Spreads.{Spread, Ground, Grows, Ended, Closest, Spanned}
use Rattle.routes.specs.Filling.{FilledBy, Filled}
use Rattle.routes.specs.Measured
use Rattle.routes.proofs.Sums
use Rattle.routes.proofs.Spread
use Rattle.routes.proofs.Scan.{settled_has, has_one}
use Rattle.routes.proofs.Gate.{none_some, some_one}
use Rattle.routes.proofs.MapRoads
use Rattle.routes.proofs.Linked

module _ {K T : Type 0} (thing : K → T) (leq : T → T → Bool) (order : TotalOrder leq)
    (plus : K → K → K) (nil blocked : K) (price : ℕ → ℕ → K) (code : K → ℕ) (laws : CostLaws thing leq plus nil blocked price code)
    (base : MapModel) (fits : WellFormed base) (i : ℕ) where
  abbrev C : Costs
  C = Linked.costs thing leq order plus nil blocked price code laws

  abbrev E : Roads C
  E = Linked.roads_of thing leq order plus nil blocked price code laws base

  -- a place is of the district or not
  inhabits : (v : ℕ) → Inhabits base i v ⊎ (Inhabits base i v → ⊥)
  inhabits v = ⊎_elim (λ l. by l (ℕ_discrete (base.district v) i)) (λ l. inr (λ h. omega (arith, l, h.known))) (cases_lt v base.places)
    where
      by : v < base.places → Dec (base.district v ≡ i) → Inhabits base i v ⊎ (Inhabits base i v → ⊥)
      by l (yes e) = inl (record { known = l; there = e })
      by l (no n) = inr (λ h. n h.there)

  -- the base map is ground for a spread from all places of the district
  pub ground : Ground C E base.district base.places (Inhabits base i)
  ground = record {
    small = fits.few_places;
    which = inhabits;
    room = λ v h. h.known;
    inside = MapRoads.end_known plus nil price base fits;
    prices = Linked.priced_road thing leq order plus nil blocked price code laws base fits;
    single = λ u v p q x y. some_one _ p q (MapRoads.open_look plus nil price base fits u v p x) (MapRoads.open_look plus nil price base fits u v q y);
  }

  one_thing : (a b : K) → Same C a b → thing a ≡ thing b
  one_thing = Measured.one_thing thing leq order plus nil blocked price code laws

  walk_end : {a b : ℕ} {c : K} → a < base.places → Walk C E a b c → b < base.places
  walk_end l Walk.stay = l
  walk_end l (Walk.go {a} {b} {p = p} r w) = walk_end (MapRoads.end_known plus nil price base fits a b p r) w

  few_passes : (c : K) → Priced C 1024 c → thing c ≡ thing blocked → ⊥
  few_passes c p e = Sums.few_open C c (Sums.priced_more C 1024 4096 c (omega arith) p) (Measured.both_at_most thing leq order plus nil blocked price code laws c blocked e).1

  nil_passes : thing nil ≡ thing blocked → ⊥
  nil_passes e = laws.passable [] (omega arith) e

  pair_one : (a b a' b' : ℕ) → ◌≡◌ {A = Maybe (ℕ × ℕ)} (some (a, b)) (some (a', b')) → (a ≡ a') × (b ≡ b')
  pair_one a b a' b' e =
      let h : ◌≡◌ {A = ℕ × ℕ} (a, b) (a', b') = some_one {K = ℕ × ℕ} (some (a, b)) (a, b) (a', b') refl e in
      (ap (λ (z : ℕ × ℕ). z.0) h, ap (λ (z : ℕ × ℕ). z.1) h)

  module _ (x : Spread K) (spanned : Spanned C E base.district (Inhabits base i) x) (entry : ℕ → K) (pair : ℕ → Maybe (ℕ × ℕ)) (f : Filled thing nil blocked base i x entry pair) where
    abbrev RowCrosses : (j a b : ℕ) → List ℕ → K → Type 0
    RowCrosses = Crosses thing leq plus nil blocked price base i

    walk : {j a b : ℕ} {l : List ℕ} {w : K} → RowCrosses j a b l w → Walk C E a b w
    walk h = Linked.route_walk thing leq order plus nil blocked price code laws base fits h.route

    -- a route from the first root
    join : (j a b : ℕ) (c : K) → Inhabits base i a → base.district b ≡ j → Way C E a b c → Joined thing leq plus nil blocked price base i j a b c
    join j a b c s e w =
        let r = Linked.walk_route thing leq order plus nil blocked price code laws base fits s.known w.1 in
        record { places = r.0; sum = w.0; crosses = record { from = s; to = record { known = walk_end s.known w.1; there = e }; route = r.1 }; costs = one_thing _ _ w.2 }

    -- the district itself
    own_crosses : RowCrosses i f.lowest f.lowest (f.lowest ∷ []) nil
    own_crosses = record { from = f.is_lowest.inhabits; to = f.is_lowest.inhabits; route = promise.stay f.is_lowest.inhabits.known }

    own_joined : (a b : ℕ) → pair i ≡ some (a, b) → Joined thing leq plus nil blocked price base i i a b (entry i)
    own_joined a b e =
        let h = pair_one f.lowest f.lowest a b (sym f.own_pair ∙ e) in
        subst₂ (λ y z. Joined thing leq plus nil blocked price base i i y z (entry i)) h.0 h.1
        (record { places = f.lowest ∷ []; sum = nil; crosses = own_crosses; costs = sym f.own_entry })

    own_open : thing (entry i) ≡ thing blocked → ⊥
    own_open e = nil_passes (sym f.own_entry ∙ e)

    -- another district with a first place
    module _ (j v : ℕ) (n : j ≡ i → ⊥) (e : x.first j ≡ some v) where
      abbrev near : Closest C E base.district (Inhabits base i) x.side j v
      near = spanned.closest j v e

      known : j < base.districts
      known =
          let w = near.joined near.root near.stems in
          subst (λ z. z < base.districts) near.inside (fits.district_known v (walk_end w.0.known w.1.1))

      abbrev by_first : FilledBy thing nil blocked x.side v (entry j) (pair j)
      by_first = f.first j v known n e

      settled_one : (l : Label K) (c d : K) → IsSettled l c → IsSettled l d → c ≡ d
      settled_one l c d h k = has_one l c d (settled_has l c h) (settled_has l d k)

      entry_thing : thing (entry j) ≡ thing near.cost
      entry_thing = by_first.entry_is ∙ ap thing (settled_one (x.side.label v) by_first.cost near.cost by_first.settled near.settled)

      first_least : (a b : ℕ) (l : List ℕ) (w : K) → RowCrosses j a b l w → AtMost thing leq (entry j) w
      first_least a b l w h = subst (λ z. leq z (thing w) ≡ mathlib.Core.Bool.true) (sym entry_thing) (near.least a b w h.from h.to.there (walk h))

      first_open : thing (entry j) ≡ thing blocked → ⊥
      first_open q = few_passes near.cost near.few_prices (sym entry_thing ∙ q)

      first_few : SumOfRoads thing leq plus nil blocked price 1024 (entry j)
      first_few = let p = near.few_prices in record { roads = p.0; few = p.1; sum = entry_thing ∙ one_thing _ _ p.2 }

      first_joined : Joined thing leq plus nil blocked price base i j by_first.root v (entry j)
      first_joined =
          let w = near.joined by_first.root by_first.stems in
          let k = join j by_first.root v near.cost w.0 near.inside w.1 in
          record { places = k.places; sum = k.sum; crosses = k.crosses; costs = k.costs ∙ sym entry_thing }

      first_paired : (a b : ℕ) → pair j ≡ some (a, b) → Joined thing leq plus nil blocked price base i j a b (entry j)
      first_paired a b q =
          let h = pair_one by_first.root v a b (sym by_first.pair_is ∙ q) in
          subst₂ (λ y z. Joined thing leq plus nil blocked price base i j y z (entry j)) h.0 h.1 first_joined

      first_pairs : pair j ≡ none → ⊥
      first_pairs q = none_some {K = ℕ × ℕ} (pair j) (by_first.root, v) q by_first.pair_is

    -- by cases on the district
    pub each : (j : ℕ) (P : Type 0) → (j ≡ i → P) → ((j ≡ i → ⊥) → x.first j ≡ none → P) → ((v : ℕ) → (j ≡ i → ⊥) → x.first j ≡ some v → P) → P
    each j P own absent there = by (ℕ_discrete j i)
      where
        at : (j ≡ i → ⊥) → (o : Maybe ℕ) → x.first j ≡ o → P
        at n none e = absent n e
        at n (some v) e = there v n e

        by : Dec (j ≡ i) → P
        by (yes e) = own e
        by (no n) = at n (x.first j) refl

    absent_walk : (j a b : ℕ) (l : List ℕ) (w : K) → x.first j ≡ none → RowCrosses j a b l w → ⊥
    absent_walk j a b l w e h = spanned.no_walk j e a b w h.from h.to.there (walk h)

    pub holds : RowHolds thing leq plus nil blocked price base i entry pair
    holds = record {
      least = λ j a b l w h. each j (AtMost thing leq (entry j) w)
          (λ e. subst (λ z. leq z (thing w) ≡ mathlib.Core.Bool.true) (sym (ap (λ k. thing (entry k)) e ∙ f.own_entry)) (Sums.free_least C w))
          (λ n e. absurd (absent_walk j a b l w e h)) (λ v n e. first_least j v n e a b l w h);
      linked = λ j a b l w h q. each j ⊥ (λ e. own_open (sym (ap (λ k. thing (entry k)) e) ∙ q)) (λ n e. absent_walk j a b l w e h) (λ v n e. first_open j v n e q);
      severed = λ j l q. each j (thing (entry j) ≡ thing blocked)
          (λ e. absurd (subst (λ k. ((a b : ℕ) (l : List ℕ) (w : K) → RowCrosses k a b l w → ⊥) → ⊥) (sym e) (λ r. r f.lowest f.lowest _ _ own_crosses) q)) (λ n e. f.absent_entry j l n e)
          (λ v n e. let k = first_joined j v n e in absurd (q _ v k.places k.sum k.crosses));
      few = λ j l. each j ((thing (entry j) ≡ thing blocked) ⊎ SumOfRoads thing leq plus nil blocked price 1024 (entry j))
          (λ e. inr (record { roads = []; few = omega arith; sum = ap (λ k. thing (entry k)) e ∙ f.own_entry })) (λ n e. inl (f.absent_entry j l n e)) (λ v n e. inr (first_few j v n e));
      paired = λ j a b q. each j (Joined thing leq plus nil blocked price base i j a b (entry j))
          (λ e. subst (λ k. pair k ≡ some (a, b) → Joined thing leq plus nil blocked price base i k a b (entry k)) (sym e) (own_joined a b) q)
          (λ n e. absurd (none_some {K = ℕ × ℕ} (pair j) (a, b) (f.absent_pair j n e) q)) (λ v n e. first_paired j v n e a b q);
      unpaired = λ j l q. each j (thing (entry j) ≡ thing blocked)
          (λ e. absurd (none_some {K = ℕ × ℕ} (pair i) (f.lowest, f.lowest) (sym (ap pair e) ∙ q) f.own_pair)) (λ n e. f.absent_entry j l n e) (λ v n e. absurd (first_pairs j v n e q));
      blocked_unpaired = λ j _ q. each j (pair j ≡ none) (λ e. absurd (own_open (sym (ap (λ k. thing (entry k)) e) ∙ q))) (λ n e. f.absent_pair j n e) (λ v n e. absurd (first_open j v n e q));
      own_entry = f.own_entry;
      own_pair = λ p h. f.own_pair
          ∙ ap (λ z. some (z, z)) (let a : f.lowest ≤ p = f.is_lowest.lowest p h.inhabits in let b : p ≤ f.lowest = h.lowest f.lowest f.is_lowest.inhabits in omega (arith, a, b));
    }

  -- the end of a spread spans
  pub spans : (x : Spread K) → Grows C E base.district (Inhabits base i) x → Ended C E base.district x → Spanned C E base.district (Inhabits base i) x
  spans x g e = Spread.spanned C E base.district base.places (Inhabits base i) ground x g e

  pub filled_holds : (x : Spread K) → Grows C E base.district (Inhabits base i) x → Ended C E base.district x → (entry : ℕ → K) (pair : ℕ → Maybe (ℕ × ℕ)) →
      Filled thing nil blocked base i x entry pair → RowHolds thing leq plus nil blocked price base i entry pair
  filled_holds x g e entry pair f = holds x (spans x g e) entry pair f
