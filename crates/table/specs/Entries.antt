-- What a table holds, and what filling a row does.
use Rattle.std.specs.Prelude.{◌≡◌, ℕ, ◌≤◌, Bool, cond, is_some, ◌&&◌, List, [], Some, None, Option, ◌==◌, nat_lt, slice_index_or}
use Rattle.table.specs.declared.entry.Entry.{Entry}
use Rattle.table.specs.declared.tables.Table.{Table}

-- Stands where there is no entry; nothing reads it.
abbrev pub no_entry : Entry
no_entry = record { number = 0; pair = None }

-- The entry of a row in a column, absent from column 64 on.
abbrev pub in_column : List Entry → ℕ → Option Entry
in_column row j = cond (nat_lt j 64) (Some (slice_index_or row j no_entry)) None

-- The row i, if it is prepared. From 64 on there is none.
abbrev pub row_at : Table → ℕ → Option (List Entry)
row_at t i = slice_index_or t.rows i None

-- Whether the row i is prepared.
abbrev pub is_prepared : Table → ℕ → Bool
is_prepared t i = is_some (row_at t i)

-- The entries of the row i; none where it is not prepared.
abbrev pub entries_of : Option (List Entry) → List Entry
entries_of None = []
entries_of (Some row) = row

-- The entry from the district i to the district j, absent where the row is not prepared or a number is out of range.
abbrev pub entry_at : Table → ℕ → ℕ → Option Entry
entry_at t i j = cond (is_prepared t i) (in_column (entries_of (row_at t i)) j) None

-- The row is prepared and holds the entries, and every other row reads as before. A number out of range changes nothing.
pub record Filled (before after : Table) (row : ℕ) (entries : List Entry) : Type 0 where
  pub reads : (i j : ℕ) → entry_at after i j ≡ cond (row == i && nat_lt row 64) (in_column entries j) (entry_at before i j)
  pub unchanged : 64 ≤ row → after ≡ before
