-- What a prepare makes of the unit.
use Rattle.std.proofs.Common.{◌≡◌, ℕ, ◌-◌, ◌<◌, ◌≤◌, Bool, true, false, cond, ◌&&◌, ltb, leb, List, ◌∷◌, ◌++◌, length, take, drop, replicate, is_some, Some, None, Ok, Err, Option, Result, sym, refl, ap, ◌∙◌, subst, ap₂, arith, eq-eqb, ne_eqb}
use borrow.Rule.Slice.PartMut.{mid_of, post_of}
use Rattle.std.proofs.lemmas.Bool.{ltb-true, leb-true, lt-ltb}
use Rattle.std.proofs.lemmas.List.{length-take-le}
use Rattle.fringe.specs.Fringes.{Meaning, Emptied}
use Rattle.map.specs.declared.numbers.District.{District}
use Rattle.map.specs.Model.{MapModel, WellFormed}
use Rattle.layers.specs.Closures.{Closures}
use Rattle.layers.specs.Slowdowns.{Slowdowns}
use Rattle.routes.specs.declared.labels.Label.{Label}
use Rattle.routes.specs.declared.labels.Label.TheVariants.{Blank}
use Rattle.routes.specs.Prepared.{RowHolds}
use Rattle.table.specs.declared.tables.Table.{Table}
use Rattle.table.specs.Entries.{in_column, is_prepared, entry_at, Filled}
use Rattle.table.specs.Views.{cost_in, pair_in, row_costs, row_pairs, stored}
use Rattle.preparing.specs.declared.Prepared.{Prepared}
use Rattle.preparing.specs.Rows.{RowPrepared, linked}
use Rattle.histories.specs.declared.calls.Call.{Call}
use Rattle.histories.specs.declared.calls.Call.TheVariants.{Prepare}
use Rattle.histories.specs.declared.refusals.Refusal.{Refusal}
use Rattle.histories.specs.declared.refusals.Refusal.TheVariants.{NoSuchDistrict, ShortRow, SmallFringe}
use Rattle.histories.specs.Histories.{further, LeftBy}
use Rattle.histories.proofs.Rows.{prepared_is, left_prepare}
use Rattle.unit.specs.declared.units.Unit.{Unit as MapUnit}
use Rattle.unit.specs.Refusing.{prepare_refusal, verdict}
use Rattle.unit.specs.Preparing.{wiped, Preparing}

-- what a verdict says
pub refused_with : (o : Option Refusal) (e : Refusal) → Err e ≡ verdict o → o ≡ Some e
refused_with None e h = absurd (let z : ◌≡◌ {A = ℕ} 0 1 = cc h in omega (arith, z))
refused_with (Some x) e h = cc h

pub goes_on : (o : Option Refusal) (u : Unit) → Ok u ≡ verdict o → o ≡ None
goes_on None u h = refl
goes_on (Some x) u h = absurd (let z : ◌≡◌ {A = ℕ} 0 1 = cc h in omega (arith, z))

never : (e : Refusal) {A : Type 0} → Some e ≡ None → A
never e h = absurd (let z : ◌≡◌ {A = ℕ} 0 1 = cc h in omega (arith, z))

-- a prepare that goes on has its district, and room
pub record Allowed (base : MapModel) (d first second capacity : ℕ) : Type 0 where
  pub known : d < base.districts
  pub first_room : base.places ≤ first
  pub second_room : base.places ≤ second
  pub fringe_room : base.places ≤ capacity

all_true : (x y z w : Bool) → cond x (cond (y && z) (cond w None (Some SmallFringe)) (Some ShortRow)) (Some NoSuchDistrict) ≡ None → (x ≡ true) × (y ≡ true) × (z ≡ true) × (w ≡ true)
all_true true true true true e = (refl, refl, refl, refl)
all_true true true true false e = never SmallFringe e
all_true true true false w e = never ShortRow e
all_true true false z w e = never ShortRow e
all_true false y z w e = never NoSuchDistrict e

pub allowed : (base : MapModel) (d first second capacity : ℕ) → prepare_refusal base d first second capacity ≡ None → Allowed base d first second capacity
allowed base d first second capacity e =
    let t = all_true (ltb d base.districts) (leb base.places first) (leb base.places second) (leb base.places capacity) e in
    record { known = ltb-true _ _ t.0; first_room = leb-true _ _ t.1; second_room = leb-true _ _ t.2; fringe_room = leb-true _ _ t.3 }

-- a row cut to n labels, and put back blank
pub cut_length : {K : Type 0} (n : ℕ) (row : List (Label K)) → n ≤ length row → length (mid_of 0 (n - 0) row) ≡ n
cut_length n row l = ap (λ k. length (take k row)) whole ∙ length-take-le n row l
  where
    whole : n - 0 ≡ n
    whole = omega arith

pub put_blank : {K : Type 0} (n k : ℕ) (row labels : List (Label K)) → k ≡ n → n ≤ length row → labels ≡ replicate (length (mid_of 0 (k - 0) row)) Blank → labels ++ post_of 0 (k - 0) row ≡ wiped n row
put_blank n k row labels same l e =
    ap (λ z. z ++ post_of 0 (k - 0) row) (e ∙ ap (λ z. replicate z Blank) (ap (λ z. length (mid_of 0 (z - 0) row)) same ∙ cut_length n row l)) ∙ ap (λ z. replicate n Blank ++ drop z row) whole
  where
    whole : k - 0 ≡ n
    whole = omega (arith, same)

module _ {K T G : Type 0} (thing : K → T) (leq : T → T → Bool) (plus : K → K → K) (nil blocked : K) (price : ℕ → ℕ → K) (decoded : ℕ → K) (base : MapModel) where
  -- refused
  pub prepare_stays : {M F : Type 0} (o : Option Refusal) (e : Refusal) → Err e ≡ verdict o → (d : ℕ) (u : MapUnit M G) (first second : List (Label K)) (well : F → Type 0) (meaning : F → Meaning K) (fringe : F) →
      (a : Result ℕ Refusal) → a ≡ Err e → Preparing thing leq plus nil blocked price decoded base o d u u first first second second well meaning fringe fringe a
  prepare_stays {M} {F} o e h d u first second well meaning fringe a is =
      subst (λ z. Preparing thing leq plus nil blocked price decoded base z d u u first first second second well meaning fringe fringe a) (sym (refused_with o e h))
      (record { answer = is; unit_same = refl; first_same = refl; second_same = refl; fringe_same = refl })

  pub history_stays : {A : Type 0} (h : List Call) (call : Call) (e : Refusal) (a : Result A Refusal) → a ≡ Err e → (map : Closures (Slowdowns G)) (table : Table) →
      LeftBy thing leq plus nil blocked price decoded base h map table → LeftBy thing leq plus nil blocked price decoded base (further h call a) map table
  history_stays {A} h call e a is map table left = subst (λ z. LeftBy thing leq plus nil blocked price decoded base (further h call z) map table) (sym is) left

  -- accepted
  module _ {M : Type 0} (sound : WellFormed base) (district : District) (u : MapUnit M G) (first second : List (Label K)) (capacity : ℕ)
      (ok : Allowed base district.0 (length first) (length second) capacity) (after : Table) (r : Prepared)
      (filled : Filled u.table after district.0 r.row) (good : RowPrepared thing leq plus nil blocked price decoded base district.0 r) where
    abbrev d : ℕ
    d = district.0

    abbrev changed : MapUnit M G
    changed = record { map = u.map; table = after; measure = u.measure }

    few : d < 64
    few = let k = ok.known in let f = sound.few_districts in omega (arith, k, f)

    reads_row : (j : ℕ) → entry_at after d j ≡ in_column r.row j
    reads_row j = filled.reads d j ∙ ap (λ b. cond b (in_column r.row j) (entry_at u.table d j)) (ap₂ (λ a b. a && b) (eq-eqb d d refl) (lt-ltb d 64 few))

    reads_other : (i j : ℕ) → (i ≡ d → ⊥) → entry_at after i j ≡ entry_at u.table i j
    reads_other i j n = filled.reads i j ∙ ap (λ b. cond (b && ltb d 64) (in_column r.row j) (entry_at u.table i j)) (ne_eqb d i (λ e. n (sym e)))

    costs_are : (stored decoded after).entry d ≡ row_costs decoded r.row
    costs_are = λ k j. ap (cost_in decoded) (reads_row j) k

    pairs_are : (stored decoded after).pair d ≡ row_pairs r.row
    pairs_are = λ k j. ap pair_in (reads_row j) k

    row_holds : RowHolds thing leq plus nil blocked price base d ((stored decoded after).entry d) ((stored decoded after).pair d)
    row_holds = subst (λ e. RowHolds thing leq plus nil blocked price base d e ((stored decoded after).pair d)) (sym costs_are)
        (subst (λ p. RowHolds thing leq plus nil blocked price base d (row_costs decoded r.row) p) (sym pairs_are) good.holds)

    is_now : is_prepared after d ≡ true
    is_now = sym (prepared_is after d) ∙ ap is_some (reads_row 0)

    pub prepare_fills : {F : Type 0} (n : ℕ) → n ≡ base.places → (first' second' : List (Label K)) → first' ≡ replicate (length (mid_of 0 (n - 0) first)) Blank → second' ≡ replicate (length (mid_of 0 (n - 0) second)) Blank →
        (well : F → Type 0) (meaning : F → Meaning K) (fringe fringe' : F) → Emptied (meaning fringe) (meaning fringe') → well fringe' → (o : Option Refusal) → o ≡ None →
        Preparing thing leq plus nil blocked price decoded base o d u changed first (first' ++ post_of 0 (n - 0) first) second (second' ++ post_of 0 (n - 0) second) well meaning fringe fringe' (Ok r.taken)
    prepare_fills n n_is first' second' first_is second_is well meaning fringe fringe' emptied ready o none =
        subst (λ z. Preparing thing leq plus nil blocked price decoded base z d u changed first (first' ++ post_of 0 (n - 0) first) second (second' ++ post_of 0 (n - 0) second) well meaning fringe fringe' (Ok r.taken)) (sym none)
        (record {
          count = r.taken;
          answer = refl;
          counted = record { at_most = good.at_most; at_least = subst (λ e. linked thing leq blocked e base.districts ≤ r.taken) (sym costs_are) good.at_least };
          map_same = refl;
          prepared = is_now;
          row = row_holds;
          elsewhere = reads_other;
          first_blank = put_blank base.places n first first' n_is ok.first_room first_is;
          second_blank = put_blank base.places n second second' n_is ok.second_room second_is;
          fringe_empty = emptied;
          in_order = ready;
        })

    pub prepare_history : (h : List Call) → LeftBy thing leq plus nil blocked price decoded base h u.map u.table → LeftBy thing leq plus nil blocked price decoded base (Prepare district ∷ h) u.map after
    prepare_history h left = left_prepare thing leq plus nil blocked price decoded base h u.map u.table left district after r.row few filled good.holds
