-- What the executable spread keeps, turn by turn, and how it ends.
use Rattle.std.proofs.Common.{◌≡◌, ℕ, zero, suc, ◌+◌, ◌<◌, ◌≤◌, Bool, true, false, eqb, ◌⊎◌, List, [], ◌∷◌, length, sym, refl, ap, ◌∙◌, inl, inr, ⊎_elim, add-zero, zero-add, arith}
use mathlib.Core.Option.{Option as Maybe, some, none}
use Rattle.std.proofs.lemmas.List.{get_or_past}
use Rattle.std.proofs.lemmas.Bool.{cases_lt, eqb-true, eqb-false, eq-eqb, ne_eqb}
use Rattle.fringe.specs.Orders.{TotalOrder}
use Rattle.map.specs.Model.{MapModel, WellFormed, Inhabits}
use Rattle.measure.specs.Costs.{CostLaws}
use Rattle.routes.specs.Costs.{Costs}
use Rattle.routes.specs.Scales.{Scale}
use Rattle.routes.specs.Walks.{Roads}
use Rattle.routes.specs.States.{Start, Label, Blank, Reached}
use Rattle.routes.specs.Kept.{tally}
use Rattle.routes.specs.Spreads.{Firsts, turn}
use Rattle.routes.specs.Search.{Ops, Found, label_at, nearest}
use Rattle.routes.specs.Rows.{look}
use Rattle.routes.specs.Asking.{open_roads}
use Rattle.routes.proofs.Tally.{tally_le}
use Rattle.routes.proofs.MapRoads as map_roads
use Rattle.routes.proofs.Linked as linked
use Rattle.routes.proofs.Parts as parts
use Rattle.routes.proofs.Sweep as sweep
use Rattle.routes.proofs.Preparing as preparing
use Rattle.samples.specs.Preparing.{Spread, or_else, first_in, sown, spread_on, spread, at_first, spread_from}

-- ---- the first settled places
-- one place more was settled
pub firsts : (district : ℕ → ℕ) (l : List ℕ) (u : ℕ) → Firsts district (first_in district l) (first_in district (u ∷ l)) u
firsts district l u = record { known = known; fresh = λ j e. fresh j e (eqb (district u) j) refl }
  where
    known : (j v : ℕ) → first_in district l j ≡ some v → first_in district (u ∷ l) j ≡ some v
    known j v e = ap (λ z. or_else z (eqb (district u) j) u) e

    fresh : (j : ℕ) → first_in district l j ≡ none → (b : Bool) → eqb (district u) j ≡ b →
        ((district u ≡ j) × (first_in district (u ∷ l) j ≡ some u)) ⊎ ((district u ≡ j → ⊥) × (first_in district (u ∷ l) j ≡ none))
    fresh j e true t = inl (eqb-true _ _ t, ap (λ z. or_else z (eqb (district u) j) u) e ∙ ap (λ z. or_else none z u) t)
    fresh j e false t = inr (eqb-false _ _ t, ap (λ z. or_else z (eqb (district u) j) u) e ∙ ap (λ z. or_else none z u) t)

-- ---- the beginning
module _ {K : Type 0} (nil : K) (district : ℕ → ℕ) (i : ℕ) where
  -- the label that a place begins with, by the test of its district
  abbrev begins_with : Bool → Label K
  begins_with b = elim b [ true ↦ Reached nil Start | false ↦ Blank ]

  -- there are n labels
  pub sown_length : (v n : ℕ) → length (sown nil district i v n) ≡ n
  sown_length v zero = refl
  sown_length v (suc n) = ap suc (sown_length (suc v) n)

  -- each as its place's district says
  sown_at : (v n k : ℕ) → k < n → label_at (sown nil district i v n) k ≡ begins_with (eqb (district (v + k)) i)
  sown_at v zero k l = absurd (omega arith)
  sown_at v (suc n) zero l = ap (λ z. begins_with (eqb (district z) i)) (sym (add-zero v))
  sown_at v (suc n) (suc k) l = sown_at (suc v) n k (omega arith) ∙ ap (λ z. begins_with (eqb (district z) i)) (omega arith)

  pub sown_here : (n k : ℕ) (b : Bool) → k < n → eqb (district k) i ≡ b → label_at (sown nil district i 0 n) k ≡ begins_with b
  sown_here n k b l e = sown_at 0 n k l ∙ ap (λ z. begins_with (eqb (district z) i)) (zero-add k) ∙ ap begins_with e

module _ {K T : Type 0} (thing : K → T) (leq : T → T → Bool) (order : TotalOrder leq)
    (plus : K → K → K) (nil blocked : K) (price : ℕ → ℕ → K) (code : K → ℕ) (laws : CostLaws thing leq plus nil blocked price code)
    (base : MapModel) (fits : WellFormed base) (i : ℕ) where
  abbrev C : Costs
  C = linked.costs thing leq order plus nil blocked price code laws

  abbrev S : Scale C
  S = linked.scale thing leq order plus nil blocked price code laws

  abbrev O : Ops K
  O = linked.operations thing leq order plus nil blocked price code laws

  abbrev E : Roads C
  E = linked.roads_of thing leq order plus nil blocked price code laws base

  -- as many labels as places, and a spread over the base map led to them
  pub record Kept (x : Spread K) : Type 0 where
    pub sized : length x.labels ≡ base.places
    pub swept : preparing.Swept thing leq order plus nil blocked price code laws base fits i x.labels (first_in base.district x.settled)

  -- the beginning
  begun : Kept (at_first O price base i)
  begun = record {
    sized = sown_length nil base.district i 0 base.places;
    swept = preparing.begins thing leq order plus nil blocked price code laws base fits i labels (first_in base.district []) start blank (λ j. refl);
  }
    where
      labels : List (Label K)
      labels = sown nil base.district i 0 base.places

      start : (v : ℕ) → Inhabits base i v → label_at labels v ≡ Reached nil Start
      start v h = sown_here nil base.district i base.places v true h.known (eq-eqb _ _ h.there)

      blank : (v : ℕ) → (Inhabits base i v → ⊥) → label_at labels v ≡ Blank
      blank v n = ⊎_elim
          (λ l. sown_here nil base.district i base.places v false l (ne_eqb _ _ (λ e. n (record { known = l; there = e }))))
          (λ l. get_or_past labels v Blank (omega (arith, l, sown_length nil base.district i 0 base.places)))
          (cases_lt v base.places)

  -- a turn
  module _ (x : Spread K) (k : Kept x) (f : Found K) (is : nearest O 0 x.labels ≡ some f) where
    near : parts.Nearest C S 0 x.labels f
    near = sweep.near C S x.labels f is

    place_known : f.place < base.places
    place_known = omega (arith, near.place_is, near.in_range, k.sized)

    abbrev row : ℕ → Maybe K
    row = look (open_roads price base f.place)

    to : (v : ℕ) (p : K) → row v ≡ some p → E f.place v p
    to v p e = map_roads.look_open plus nil price base fits f.place v p place_known e

    from : (v : ℕ) (p : K) → E f.place v p → row v ≡ some p
    from v p e = map_roads.open_look plus nil price base fits f.place v p e

    -- it is kept
    goes_on : Kept (spread_on O price base x f)
    goes_on = record {
      sized = sweep.sized_on C S E base.places (map_roads.end_known plus nil price base fits) x.labels k.sized f near row to from;
      swept = turn k.swept
          (sweep.spreads C S E base.places (map_roads.end_known plus nil price base fits) x.labels k.sized f near row to from base.district _ _ (firsts base.district x.settled f.place));
    }

    -- one place more is settled
    counted : tally (label_at (spread_on O price base x f).labels) base.places ≡ suc (tally (label_at x.labels) base.places)
    counted =
        let s = preparing.kept thing leq order plus nil blocked price code laws base fits i _ _ k.swept in
        sweep.counted C S E base.places (map_roads.end_known plus nil price base fits) x.labels k.sized f near row to from (Inhabits base i) s.rank s.one

  -- the end
  pub record Ended (x : Spread K) : Type 0 where
    pub kept : Kept x
    pub still : nearest O 0 x.labels ≡ none

  -- where places and turns suffice, a spread ends
  ends : (n : ℕ) (x : Spread K) → Kept x → base.places ≤ tally (label_at x.labels) base.places + n → Ended (spread O price base n x)
  ends zero x k l = record { kept = k; still = by (nearest O 0 x.labels) refl }
    where
      by : (o : Maybe (Found K)) → nearest O 0 x.labels ≡ o → nearest O 0 x.labels ≡ none
      by none e = e
      by (some f) e = absurd (omega (arith, l, counted x k f e, tally_le (label_at (spread_on O price base x f).labels) base.places))
  ends (suc n) x k l = by (ends n) (nearest O 0 x.labels) refl
    where
      by : ((y : Spread K) → Kept y → base.places ≤ tally (label_at y.labels) base.places + n → Ended (spread O price base n y)) →
          (o : Maybe (Found K)) → nearest O 0 x.labels ≡ o → Ended (elim o [ none ↦ x | some f ↦ spread O price base n (spread_on O price base x f) ])
      by more none e = record { kept = k; still = e }
      by more (some f) e = more (spread_on O price base x f) (goes_on x k f e) (omega (arith, l, counted x k f e))

  -- the whole spread has ended
  pub ended : Ended (spread_from O price base i)
  ended = ends base.places (at_first O price base i) begun (omega arith)
