-- What preparing a row promises.
use Rattle.std.specs.Prelude.{◌≡◌, ℕ, zero, suc, ◌+◌, ◌<◌, ◌≤◌, Bool, cond}
use Rattle.map.specs.Model.{MapModel}
use Rattle.routes.specs.Prepared.{RowHolds}
use Rattle.table.specs.Views.{row_costs, row_pairs}
use Rattle.preparing.specs.declared.Prepared.{Prepared}

-- There is a district d, a label for each place, and room in the fringe for all places.
pub record Ready (m : MapModel) (d labels capacity : ℕ) : Type 0 where
  pub known : d < m.districts
  pub sized : labels ≡ m.places
  pub room : m.places ≤ capacity

module _ {K T : Type 0} (thing : K → T) (leq : T → T → Bool) where
  -- How many of the first n entries are not blocked.
  abbrev pub linked : K → (ℕ → K) → ℕ → ℕ
  linked blocked entry zero = 0
  linked blocked entry (suc n) = cond (leq (thing blocked) (thing (entry n))) 0 1 + linked blocked entry n

  -- The row of the district d holds. At most all places were taken, and at least one for each district that is linked.
  pub record RowPrepared (plus : K → K → K) (nil blocked : K) (price : ℕ → ℕ → K) (decoded : ℕ → K) (m : MapModel) (d : ℕ) (r : Prepared) : Type 0 where
    pub holds : RowHolds thing leq plus nil blocked price m d (row_costs decoded r.row) (row_pairs r.row)
    pub at_most : r.taken ≤ m.places
    pub at_least : linked blocked (row_costs decoded r.row) m.districts ≤ r.taken
