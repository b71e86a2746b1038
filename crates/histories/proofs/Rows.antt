-- How new units, prepares and questions leave a unit.
use Rattle.std.proofs.Common.{◌≡◌, ℕ, ◌<◌, Bool, true, false, cond, ◌&&◌, ◌||◌, eqb, ltb, List, [], ◌∷◌, is_some, None, Option, sym, refl, ap, ◌∙◌, subst}
use mathlib.Core.Option.{Option as Maybe}
use Rattle.std.proofs.lemmas.Bool.{lt-ltb, eqb-true, false≢true}
use Rattle.fringe.specs.declared.place.Place.{Place}
use Rattle.map.specs.declared.numbers.District.{District}
use Rattle.map.specs.Model.{MapModel}
use Rattle.layers.specs.Closures.{Closures, LeftBy as ClosuresLeftBy}
use Rattle.layers.specs.Slowdowns.{Slowdowns, LeftBy as SlowdownsLeftBy}
use Rattle.routes.specs.Prepared.{RowHolds}
use Rattle.table.specs.declared.entry.Entry.{Entry}
use Rattle.table.specs.declared.tables.Table.{Table}
use Rattle.table.specs.Entries.{row_at, entries_of, in_column, is_prepared, entry_at, Filled}
use Rattle.table.specs.Views.{cost_in, pair_in, row_costs, row_pairs, stored}
use Rattle.histories.specs.declared.calls.Call.{Call}
use Rattle.histories.specs.declared.calls.Call.TheVariants.{Prepare, Question}
use Rattle.histories.specs.Histories.{is_row_prepared, LeftBy}

-- ---- rows
-- a row is prepared exactly where it has an entry in its first column
pub prepared_is : (t : Table) (i : ℕ) → is_some (entry_at t i 0) ≡ is_prepared t i
prepared_is t i = elim (is_prepared t i) as (λ b. is_some (cond b (in_column (entries_of (row_at t i)) 0) None) ≡ b) [ true ↦ refl | false ↦ refl ]

some_either : (b : Bool) (row : List Entry) (o : Option Entry) → is_some (cond b (in_column row 0) o) ≡ (b || is_some o)
some_either true row o = refl
some_either false row o = refl

-- which row was filled, of those that there are
filled_row : (i k : ℕ) → i < 64 → (eqb i k && ltb i 64) ≡ eqb i k
filled_row i k l = rw (lt-ltb i 64 l) (elim (eqb i k) as (λ b. (b && true) ≡ b) [ true ↦ refl | false ↦ refl ])

module _ {K T : Type 0} (thing : K → T) (leq : T → T → Bool) (plus : K → K → K) (nil blocked : K) (price : ℕ → ℕ → K) (base : MapModel) where
  -- a row that reads alike holds alike
  row_alike : (i : ℕ) (e f : ℕ → K) (p q : ℕ → Maybe (ℕ × ℕ)) → ((j : ℕ) → f j ≡ e j) → ((j : ℕ) → q j ≡ p j) →
      RowHolds thing leq plus nil blocked price base i e p → RowHolds thing leq plus nil blocked price base i f q
  row_alike i e f p q same_entry same_pair holds =
      let entries : f ≡ e = λ k j. same_entry j k in
      let pairs : q ≡ p = λ k j. same_pair j k in
      rw (entries, pairs) holds

module _ {K T G : Type 0} (thing : K → T) (leq : T → T → Bool) (plus : K → K → K) (nil blocked : K) (price : ℕ → ℕ → K) (decoded : ℕ → K)
    (base : MapModel) where
  -- ---- a new unit
  pub left_new : (map : Closures (Slowdowns G)) (table : Table) → ClosuresLeftBy [] map → SlowdownsLeftBy [] map.below →
      ((i j : ℕ) → entry_at table i j ≡ None) → LeftBy thing leq plus nil blocked price decoded base [] map table
  left_new map table c s blank = record {
    closures = c;
    slowdowns = s;
    prepared = λ i. sym (prepared_is table i) ∙ ap is_some (blank i 0);
    rows = λ i p. absurd (false≢true p);
  }

  module _ (h : List Call) (map : Closures (Slowdowns G)) (table : Table) (was : LeftBy thing leq plus nil blocked price decoded base h map table) where
    -- ---- a question
    pub left_question : (s t : Place) → LeftBy thing leq plus nil blocked price decoded base (Question s t ∷ h) map table
    left_question s t = record { closures = was.closures; slowdowns = was.slowdowns; prepared = was.prepared; rows = was.rows }

    -- ---- a prepare
    module _ (d : District) (after : Table) (entries : List Entry) (l : d.0 < 64) (filled : Filled table after d.0 entries)
        (holds : RowHolds thing leq plus nil blocked price base d.0 (row_costs decoded entries) (row_pairs entries)) where
      -- what the table holds now
      entry_now : (i j : ℕ) → entry_at after i j ≡ cond (eqb d.0 i) (in_column entries j) (entry_at table i j)
      entry_now i j = filled.reads i j ∙ ap (λ b. cond b (in_column entries j) (entry_at table i j)) (filled_row d.0 i l)

      prepared_now : (i : ℕ) → is_prepared after i ≡ is_row_prepared (Prepare d ∷ h) i
      prepared_now i = sym (prepared_is after i) ∙ ap is_some (entry_now i 0) ∙ some_either (eqb d.0 i) entries (entry_at table i 0)
          ∙ ap (λ b. eqb d.0 i || b) (prepared_is table i ∙ was.prepared i)

      row_now : (i : ℕ) (b : Bool) → eqb d.0 i ≡ b → (b || is_row_prepared h i) ≡ true →
          RowHolds thing leq plus nil blocked price base i ((stored decoded after).entry i) ((stored decoded after).pair i)
      row_now i true e p =
          let same : (j : ℕ) → entry_at after i j ≡ in_column entries j = λ j. entry_now i j ∙ ap (λ b. cond b (in_column entries j) (entry_at table i j)) e in
          row_alike thing leq plus nil blocked price base i (row_costs decoded entries) ((stored decoded after).entry i) (row_pairs entries) ((stored decoded after).pair i)
          (λ j. ap (cost_in decoded) (same j)) (λ j. ap pair_in (same j))
          (subst (λ (n : ℕ). RowHolds thing leq plus nil blocked price base n (row_costs decoded entries) (row_pairs entries)) (eqb-true d.0 i e) holds)
      row_now i false e p =
          let same : (j : ℕ) → entry_at after i j ≡ entry_at table i j = λ j. entry_now i j ∙ ap (λ b. cond b (in_column entries j) (entry_at table i j)) e in
          row_alike thing leq plus nil blocked price base i ((stored decoded table).entry i) ((stored decoded after).entry i) ((stored decoded table).pair i) ((stored decoded after).pair i)
          (λ j. ap (cost_in decoded) (same j)) (λ j. ap pair_in (same j)) (was.rows i p)

      pub left_prepare : LeftBy thing leq plus nil blocked price decoded base (Prepare d ∷ h) map after
      left_prepare = record { closures = was.closures; slowdowns = was.slowdowns; prepared = prepared_now; rows = λ i p. row_now i (eqb d.0 i) refl p }
