-- A table as a question takes it: with costs in the place of their numbers. `decoded` gives the cost of a number.
use Rattle.std.proofs.Math.Option.{Option as Maybe, some, none}
use Rattle.std.specs.Prelude.{ℕ, List, Some, None, Option}
use Rattle.fringe.specs.declared.place.Place.{Place}
use Rattle.routes.specs.Asking.{Table as StoredTable}
use Rattle.table.specs.declared.entry.Entry.{Entry}
use Rattle.table.specs.declared.tables.Table.{Table}
use Rattle.table.specs.Entries.{in_column, is_prepared, entry_at}

-- A start and an end by their numbers.
abbrev pub ends_of : Option (Place × Place) → Maybe (ℕ × ℕ)
ends_of None = none
ends_of (Some p) = some (p.0.0, p.1.0)

-- The start and end of an entry, if it has them.
abbrev pub pair_in : Option Entry → Maybe (ℕ × ℕ)
pair_in None = none
pair_in (Some e) = ends_of e.pair

-- The starts and ends of a row, by columns.
abbrev pub row_pairs : List Entry → ℕ → Maybe (ℕ × ℕ)
row_pairs row j = pair_in (in_column row j)

module _ {K : Type 0} (decoded : ℕ → K) where
  -- The cost of an entry. Nothing reads it where there is none.
  abbrev pub cost_in : Option Entry → K
  cost_in None = decoded 0
  cost_in (Some e) = decoded e.number

  -- The costs of a row, by columns.
  abbrev pub row_costs : List Entry → ℕ → K
  row_costs row j = cost_in (in_column row j)

  -- The table as it is stored.
  abbrev pub stored : Table → StoredTable K
  stored t = record { prepared = is_prepared t; entry = λ i j. cost_in (entry_at t i j); pair = λ i j. pair_in (entry_at t i j) }
