-- The map of a unit as its history makes it read, and that all of a unit is consistent.
use Rattle.std.proofs.Common.{◌≡◌, ℕ, ◌≤◌, Bool, true, false, ◌&&◌, eqb, List, [], ◌∷◌, length, Some, None, Option, sym, refl, ap, ◌∙◌, arith}
use Rattle.std.specs.Option.{option_map}
use Rattle.std.proofs.lemmas.Bool.{and_parts, eqb-true}
use Rattle.map.specs.declared.numbers.RoadId.{RoadId}
use Rattle.map.specs.declared.roads.Mark.TheVariants.{Open}
use Rattle.map.specs.declared.roads.Road.{Road}
use Rattle.map.specs.Model.{MapModel, WellFormed}
use Rattle.map.specs.Through.{through}
use Rattle.map.proofs.Through.{was}
use Rattle.entries.specs.declared.slowdown.Figure.{Figure}
use Rattle.entries.specs.Entries.{entry_for}
use Rattle.entries.specs.Slowdowns.{slow_road}
use Rattle.entries.specs.Tables.{holds, figure}
use Rattle.entries.specs.Readings.{shut, at_least, slowed, closing, slowing}
use Rattle.entries.proofs.Readings.{closing_well, slowing_well}
use Rattle.layers.specs.Closures.{Closures}
use Rattle.layers.specs.Slowdowns.{Slowdowns}
use Rattle.routes.specs.Asking.{Consistent}
use Rattle.routes.specs.Layers.{Layered}
use Rattle.routes.proofs.Layers.{layered_over}
use Rattle.table.specs.declared.tables.Table.{Table}
use Rattle.table.specs.Views.{stored}
use Rattle.histories.specs.declared.calls.Call.{Call}
use Rattle.histories.specs.Histories.{is_closed, figure_now, map_after, no_entries, LeftBy}

-- ---- layers
-- The road y is the road x, perhaps slower, perhaps closed.
record Over (x y : Road) : Type 0 where
  start : y.start ≡ x.start
  end : y.end ≡ x.end
  steepness : y.steepness ≡ x.steepness
  slower : x.seconds ≤ y.seconds
  open_below : y.mark ≡ Open → x.mark ≡ Open

through_layered : (f : ℕ → Road → Road) (m : MapModel) → ((r : ℕ) (x : Road) → Over x (f r x)) → Layered m (through f m)
through_layered f m over = record {
  places = refl;
  districts = refl;
  roads = refl;
  district = λ p. refl;
  departures = λ p. refl;
  arrivals = λ p. refl;
  overlaid = λ r y e.
      let w = was (m.road r) (f r) y e in
      let o = over r w.road in
      let back = sym w.read in
      record {
        was = w.road;
        there = w.there;
        start = ap (λ (x : Road). x.start.0) back ∙ ap (λ p. p.0) o.start;
        end = ap (λ (x : Road). x.end.0) back ∙ ap (λ p. p.0) o.end;
        steepness = ap (λ (x : Road). x.steepness) back ∙ o.steepness;
        slower = let s = ap (λ (x : Road). x.seconds) w.read in omega (arith, s, o.slower);
        open_below = λ h. o.open_below (ap (λ (x : Road). x.mark) w.read ∙ h);
      };
}

open_shut : (closed : Bool) (x : Road) → (shut closed x).mark ≡ Open → x.mark ≡ Open
open_shut true x e = let z : ◌≡◌ {A = ℕ} 0 1 = cc in let no' : ⊥ = omega arith in absurd no'
open_shut false x e = e

no_sooner : (own : Option ℕ) (s : ℕ) → s ≤ at_least own s
no_sooner None s = omega arith
no_sooner (Some f) s = omega arith

closing_layered : (closed : ℕ → Bool) (m : MapModel) → Layered m (closing closed m)
closing_layered closed m = through_layered (λ r. shut (closed r)) m
    (λ r x. record { start = refl; end = refl; steepness = refl; slower = omega arith; open_below = open_shut (closed r) x })

slowing_layered : (figures : ℕ → Option ℕ) (m : MapModel) → Layered m (slowing figures m)
slowing_layered figures m = through_layered (λ r. slowed (figures r)) m
    (λ r x. record { start = refl; end = refl; steepness = refl; slower = no_sooner (figures r) x.seconds; open_below = λ h. h })

-- ---- no entries
none_closed : (t : List RoadId) (r : ℕ) → length t ≡ 0 → holds t r ≡ false
unfolding entry_for
none_closed [] r e = refl
none_closed (x ∷ t) r e = let no' : ⊥ = omega arith in absurd no'

none_slowed : (t : List Figure) (r : ℕ) → length t ≡ 0 → figure t r ≡ None
unfolding entry_for
none_slowed [] r e = refl
none_slowed (x ∷ t) r e = let no' : ⊥ = omega arith in absurd no'

as_below : (o : Option Road) (closed : Bool) (own : Option ℕ) → closed ≡ false → own ≡ None → option_map (shut closed) (option_map (slowed own) o) ≡ o
as_below None closed own e f = refl
as_below (Some x) closed own e f = rw (e, f)

-- ---- a unit
module _ {K T G : Type 0} (thing : K → T) (leq : T → T → Bool) (plus : K → K → K) (nil blocked : K) (price : ℕ → ℕ → K) (decoded : ℕ → K)
    (base : MapModel) (h : List Call) (map : Closures (Slowdowns G)) (table : Table)
    (left : LeftBy thing leq plus nil blocked price decoded base h map table) where
  -- the map reads as the history says
  pub map_is : closing (holds map.roads.entries.used) (slowing (figure map.below.roads.entries.used) base) ≡ map_after base h
  map_is =
      let closed : holds map.roads.entries.used ≡ is_closed h = λ k r. left.closures.reads r k in
      let figures : figure map.below.roads.entries.used ≡ figure_now h = λ k r. left.slowdowns.reads r k in
      ap (λ (c : ℕ → Bool). closing c (slowing (figure map.below.roads.entries.used) base)) closed
      ∙ ap (λ (f : ℕ → Option ℕ). closing (is_closed h) (slowing f base)) figures

  -- and has entries where the history says
  pub empty_is : (eqb (length map.roads.entries.used) 0 && eqb (length map.below.roads.entries.used) 0) ≡ no_entries h
  empty_is = rw (left.closures.count, left.slowdowns.count)

  pub consistent : WellFormed base →
      Consistent thing leq plus nil blocked price (closing (holds map.roads.entries.used) (slowing (figure map.below.roads.entries.used) base)) base (stored decoded table)
      (eqb (length map.roads.entries.used) 0 && eqb (length map.below.roads.entries.used) 0)
  consistent fits =
      let slow = slowing (figure map.below.roads.entries.used) base in
      record {
        base_fits = fits;
        now_fits = closing_well (holds map.roads.entries.used) slow (slowing_well (entry_for slow_road map.below.roads.entries.used) base fits);
        layered = layered_over base slow (closing (holds map.roads.entries.used) slow) (slowing_layered (figure map.below.roads.entries.used) base) (closing_layered (holds map.roads.entries.used) slow);
        rows = λ i p. left.rows i (sym (left.prepared i) ∙ p);
        unchanged = λ empty r.
            let both = and_parts (eqb (length map.roads.entries.used) 0) (eqb (length map.below.roads.entries.used) 0) empty in
            as_below (base.road r) (holds map.roads.entries.used r) (figure map.below.roads.entries.used r)
            (none_closed map.roads.entries.used r (eqb-true (length map.roads.entries.used) 0 both.0)) (none_slowed map.below.roads.entries.used r (eqb-true (length map.below.roads.entries.used) 0 both.1));
      }
