-- What a prepare answers and does.
use Rattle.std.specs.Prelude.{◌≡◌, ℕ, ◌≤◌, Bool, true, List, ◌++◌, drop, replicate, Some, None, Ok, Err, Option, Result, ◌≢◌}
use Rattle.fringe.specs.Fringes.{Meaning, Emptied}
use Rattle.map.specs.Model.{MapModel}
use Rattle.routes.specs.declared.labels.Label.{Label}
use Rattle.routes.specs.declared.labels.Label.TheVariants.{Blank}
use Rattle.routes.specs.Prepared.{RowHolds}
use Rattle.table.specs.Entries.{is_prepared, entry_at}
use Rattle.table.specs.Views.{stored}
use Rattle.preparing.specs.Rows.{linked}
use Rattle.histories.specs.declared.refusals.Refusal.{Refusal}
use Rattle.unit.specs.declared.units.Unit.{Unit as MapUnit}

-- The row with its first n labels blank, and the rest as it was.
abbrev pub wiped : {K : Type 0} → ℕ → List (Label K) → List (Label K)
wiped n row = replicate n Blank ++ drop n row

-- A refused prepare: nothing has changed.
pub record PrepareRefused {K M G F : Type 0} (e : Refusal) (before after : MapUnit M G) (first first' second second' : List (Label K)) (fringe fringe' : F) (a : Result ℕ Refusal) : Type 0 where
  pub answer : a ≡ Err e
  pub unit_same : after ≡ before
  pub first_same : first' ≡ first
  pub second_same : second' ≡ second
  pub fringe_same : fringe' ≡ fringe

-- In a measure of `thing`, `leq`, `plus`, `nil`, `blocked`, `price` and `decoded`, over a base map that means `base`.
module _ {K T : Type 0} (thing : K → T) (leq : T → T → Bool) (plus : K → K → K) (nil blocked : K) (price : ℕ → ℕ → K) (decoded : ℕ → K) (base : MapModel) where
  -- The count of places that a prepare of the district d answers: at most all of them, and at least as many as districts are
  -- reached.
  pub record Counted {M G : Type 0} (d : ℕ) (after : MapUnit M G) (count : ℕ) : Type 0 where
    pub at_most : count ≤ base.places
    pub at_least : linked thing leq blocked ((stored decoded after.table).entry d) base.districts ≤ count

  -- An accepted prepare of the district d: its row is prepared and holds, all other rows and the map are as before, and the
  -- memory that was lent is left blank and empty. `W` says that the fringe is in order.
  pub record RowFilled {M G : Type 0} (d : ℕ) (before after : MapUnit M G) (first first' second second' : List (Label K)) (W : Type 0) (fringe fringe' : Meaning K) (a : Result ℕ Refusal) : Type 0 where
    pub count : ℕ
    pub answer : a ≡ Ok count
    pub counted : Counted d after count
    pub map_same : after.map ≡ before.map
    pub prepared : is_prepared after.table d ≡ true
    pub row : RowHolds thing leq plus nil blocked price base d ((stored decoded after.table).entry d) ((stored decoded after.table).pair d)
    pub elsewhere : (i j : ℕ) → (i ≢ d) → entry_at after.table i j ≡ entry_at before.table i j
    pub first_blank : first' ≡ wiped base.places first
    pub second_blank : second' ≡ wiped base.places second
    pub fringe_empty : Emptied fringe fringe'
    pub in_order : W

  -- A prepare, by whether it is refused.
  abbrev pub Preparing : {M G F : Type 0} → Option Refusal → ℕ → (before after : MapUnit M G) → (first first' second second' : List (Label K)) → (well : F → Type 0) → (meaning : F → Meaning K) →
      (fringe fringe' : F) → Result ℕ Refusal → Type 0
  Preparing (Some e) d before after first first' second second' well meaning fringe fringe' a = PrepareRefused e before after first first' second second' fringe fringe' a
  Preparing None d before after first first' second second' well meaning fringe fringe' a =
      RowFilled d before after first first' second second' (well fringe') (meaning fringe) (meaning fringe') a
