-- The executable row holds.
use Rattle.std.proofs.Common.{◌≡◌, ℕ, zero, suc, ◌+◌, ◌<◌, ◌≤◌, Bool, true, false, eqb, leb, refl, ap, ◌∙◌, subst, ⊎_elim, arith, ltb-true, le-leb, leb-false, leb-true}
use mathlib.Core.Option.{Option as Maybe, some, none}
use Rattle.std.proofs.lemmas.Bool.{cases_eq, eqb-true, eqb-false, eq-eqb, ne_eqb}
use Rattle.fringe.specs.Orders.{TotalOrder}
use Rattle.map.specs.Model.{MapModel, WellFormed}
use Rattle.measure.specs.Costs.{CostLaws}
use Rattle.measure.specs.Times.{time, seconds_of, add_time}
use Rattle.measure.specs.Steeps.{steep, per_mille_of, steeper}
use Rattle.measure.proofs.TimeLaws.{time_laws}
use Rattle.measure.proofs.SteepnessLaws.{steepness_laws}
use Rattle.routes.specs.Costs.{Costs}
use Rattle.routes.specs.Walks.{Roads}
use Rattle.routes.specs.States.{Label, Blank, Reached, Settled, IsSettled}
use Rattle.routes.specs.Spreads.{FirstOk}
use Rattle.routes.specs.Filling.{FilledBy, Filled}
use Rattle.routes.specs.Prepared.{LowestOf, RowHolds}
use Rattle.routes.specs.Sweeps.{swept_side, root}
use Rattle.routes.specs.Search.{Ops, label_at}
use Rattle.routes.proofs.Scan.{settled_has}
use Rattle.routes.proofs.Linked as linked
use Rattle.routes.proofs.Layers.{layered_self}
use Rattle.routes.proofs.Preparing as preparing
use Rattle.samples.specs.Preparing.{Spread, first_in, lowest_from, twice, cost_or, entry_by, pair_by, spread_from, entry_after, pair_after, RowsHold, MayBeAsked}
use Rattle.samples.specs.Measures.{time_price, steep_price}
use Rattle.samples.proofs.Spreading as spreading

-- ---- the lowest place of a district
module _ (district : ℕ → ℕ) (i : ℕ) where
  -- what the search for it finds among the n places from v on
  abbrev pub LowestOk : ℕ → ℕ → Maybe ℕ → Type 0
  LowestOk v n none = (a : ℕ) → v ≤ a → a < v + n → district a ≡ i → ⊥
  LowestOk v n (some p) = (p < v + n) × (district p ≡ i) × ((a : ℕ) → v ≤ a → a < v + n → district a ≡ i → p ≤ a)

  -- a place in front that is of another district
  past : (v n : ℕ) (o : Maybe ℕ) → (district v ≡ i → ⊥) → LowestOk (suc v) n o → LowestOk v (suc n) o
  past v n none away h = λ a l u e. ⊎_elim (λ (s : a ≡ v). away (subst (λ z. district z ≡ i) s e)) (λ (s : a ≡ v → ⊥). h a (omega arith) (omega arith) e) (cases_eq a v)
  past v n (some p) away h = (
    omega (arith, h.0),
    h.1,
    λ a l u e. ⊎_elim (λ (s : a ≡ v). absurd (away (subst (λ z. district z ≡ i) s e))) (λ (s : a ≡ v → ⊥). h.2 a (omega arith) (omega arith) e) (cases_eq a v),
  )

  pub lowest_ok : (v n : ℕ) → LowestOk v n (lowest_from district i v n)
  lowest_ok v zero = λ a l u e. omega arith
  lowest_ok v (suc n) = by (lowest_ok (suc v) n) (eqb (district v) i) refl
    where
      by : LowestOk (suc v) n (lowest_from district i (suc v) n) → (b : Bool) → eqb (district v) i ≡ b →
          LowestOk v (suc n) (elim b [ true ↦ some v | false ↦ lowest_from district i (suc v) n ])
      by h true e = (omega arith, eqb-true _ _ e, λ a l u s. l)
      by h false e = past v n (lowest_from district i (suc v) n) (eqb-false _ _ e) h

-- the lowest place that was found
pub record Lowest (base : MapModel) (i : ℕ) (o : Maybe ℕ) : Type 0 where
  pub place : ℕ
  pub is : o ≡ some place
  pub lowest : LowestOf base i place

pub lowest_found : (base : MapModel) → WellFormed base → (i : ℕ) → i < base.districts → Lowest base i (lowest_from base.district i 0 base.places)
lowest_found base fits i known = by (lowest_from base.district i 0 base.places) refl (lowest_ok base.district i 0 base.places)
  where
    by : (o : Maybe ℕ) → lowest_from base.district i 0 base.places ≡ o → LowestOk base.district i 0 base.places o → Lowest base i (lowest_from base.district i 0 base.places)
    by none e h =
        let one = fits.no_empty_district i known in
        absurd (h one.place (omega arith) (omega (arith, one.inhabits.known)) one.inhabits.there)
    by (some p) e h = record {
      place = p;
      is = e;
      lowest = record { inhabits = record { known = omega (arith, h.0); there = h.1 }; lowest = λ a s. h.2 a (omega arith) (omega (arith, s.known)) s.there };
    }

-- ---- the row
settled_cost : {K : Type 0} (blocked c : K) (x : Label K) → IsSettled x c → cost_or blocked x ≡ c
settled_cost blocked c Blank h = absurd h
settled_cost blocked c (Reached d o) h = absurd h
settled_cost blocked c (Settled d o) h = h

module _ {K T : Type 0} (thing : K → T) (leq : T → T → Bool) (order : TotalOrder leq)
    (plus : K → K → K) (nil blocked : K) (price : ℕ → ℕ → K) (code : K → ℕ) (laws : CostLaws thing leq plus nil blocked price code) where
  module _ (base : MapModel) (fits : WellFormed base) (i : ℕ) (known : i < base.districts) where
    abbrev C : Costs
    C = linked.costs thing leq order plus nil blocked price code laws

    abbrev O : Ops K
    O = linked.operations thing leq order plus nil blocked price code laws

    abbrev E : Roads C
    E = linked.roads_of thing leq order plus nil blocked price code laws base

    -- the row, by the end x of a spread
    module _ (x : Spread K) (end : spreading.Ended thing leq order plus nil blocked price code laws base fits i x) where
      abbrev first : ℕ → Maybe ℕ
      first = first_in base.district x.settled

      abbrev entry : ℕ → K
      entry = entry_after O price base i x

      abbrev pair : ℕ → Maybe (ℕ × ℕ)
      pair = pair_after O price base i x

      abbrev lowest_place : Maybe ℕ
      lowest_place = lowest_from base.district i 0 base.places

      -- the two ways of an entry and of a pair
      own_entry : entry i ≡ nil
      own_entry = ap (λ b. elim b [ true ↦ nil | false ↦ entry_by blocked x.labels (first i) ]) (eq-eqb i i refl)

      own_pair : pair i ≡ twice lowest_place
      own_pair = ap (λ b. elim b [ true ↦ twice lowest_place | false ↦ pair_by base.places x.labels (first i) ]) (eq-eqb i i refl)

      other_entry : (j : ℕ) → (j ≡ i → ⊥) → entry j ≡ entry_by blocked x.labels (first j)
      other_entry j n = ap (λ b. elim b [ true ↦ nil | false ↦ entry_by blocked x.labels (first j) ]) (ne_eqb j i n)

      other_pair : (j : ℕ) → (j ≡ i → ⊥) → pair j ≡ pair_by base.places x.labels (first j)
      other_pair j n = ap (λ b. elim b [ true ↦ twice lowest_place | false ↦ pair_by base.places x.labels (first j) ]) (ne_eqb j i n)

      -- by the first settled place of another district
      by_first : (j v : ℕ) → j < base.districts → (j ≡ i → ⊥) → first j ≡ some v → FilledBy thing nil blocked (swept_side x.labels) v (entry j) (pair j)
      by_first j v l n e =
          let s = preparing.kept thing leq order plus nil blocked price code laws base fits i x.labels first end.kept.swept in
          let q : FirstOk C E base.district (swept_side x.labels) j (some v) = subst (FirstOk C E base.district (swept_side x.labels) j) e (s.firsts j) in
          record {
            cost = q.0;
            settled = q.1;
            entry_is = ap thing (other_entry j n ∙ ap (entry_by blocked x.labels) e ∙ settled_cost blocked q.0 (label_at x.labels v) q.1);
            root = root (suc base.places) x.labels v;
            stems = preparing.root_is thing leq order plus nil blocked price code laws base fits i x.labels first end.kept.swept v q.0 (settled_has _ _ q.1);
            pair_is = other_pair j n ∙ ap (pair_by base.places x.labels) e;
          }

      filled : Filled thing nil blocked base i (record { side = swept_side x.labels; first = first }) entry pair
      filled = let low = lowest_found base fits i known in record {
        lowest = low.place;
        is_lowest = low.lowest;
        own_entry = ap thing own_entry;
        own_pair = own_pair ∙ ap twice low.is;
        first = by_first;
        absent_entry = λ j l n e. ap thing (other_entry j n ∙ ap (entry_by blocked x.labels) e);
        absent_pair = λ j n e. other_pair j n ∙ ap (pair_by base.places x.labels) e;
      }

      pub row_holds : RowHolds thing leq plus nil blocked price base i entry pair
      row_holds = preparing.ends thing leq order plus nil blocked price code laws base fits i x.labels first end.kept.swept end.still entry pair filled

  -- the executable preparing always gives a row that holds
  pub prepared_holds : RowsHold thing leq plus nil blocked price
  prepared_holds base fits i known =
      row_holds base fits i known (spread_from (linked.operations thing leq order plus nil blocked price code laws) price base i) (spreading.ended thing leq order plus nil blocked price code laws base fits i)

  -- and its table is consistent with the map
  pub prepared_asked : MayBeAsked thing leq plus nil blocked price
  prepared_asked base fits = record {
    base_fits = fits;
    now_fits = fits;
    layered = layered_self base;
    rows = λ i p. prepared_holds base fits i (ltb-true i base.districts p);
    unchanged = λ _ r. refl;
  }

-- ---- both measures
order : TotalOrder leb
order = record {
  refl_leq = λ a. le-leb a a (omega arith);
  trans_leq = λ a b c p q. le-leb a c (omega (arith, leb-true a b p, leb-true b c q));
  antisym_leq = λ a b p q. omega (arith, leb-true a b p, leb-true b a q);
  total_leq = λ a b p. le-leb b a (omega (arith, leb-false a b p));
}

pub time_rows_hold : RowsHold seconds_of leb add_time (time 0) (time 4294967295) time_price
time_rows_hold = prepared_holds seconds_of leb order add_time (time 0) (time 4294967295) time_price seconds_of time_laws

pub steep_rows_hold : RowsHold per_mille_of leb steeper (steep 0) (steep 65535) steep_price
steep_rows_hold = prepared_holds per_mille_of leb order steeper (steep 0) (steep 65535) steep_price per_mille_of steepness_laws

pub time_asked : MayBeAsked seconds_of leb add_time (time 0) (time 4294967295) time_price
time_asked = prepared_asked seconds_of leb order add_time (time 0) (time 4294967295) time_price seconds_of time_laws

pub steep_asked : MayBeAsked per_mille_of leb steeper (steep 0) (steep 65535) steep_price
steep_asked = prepared_asked per_mille_of leb order steeper (steep 0) (steep 65535) steep_price per_mille_of steepness_laws
