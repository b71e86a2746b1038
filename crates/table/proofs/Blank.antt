-- The rows of a new table.
use Rattle.std.proofs.Common.{◌≡◌, ℕ, List, get_or, replicate, None, Option, ⊎_elim}
use Rattle.std.proofs.lemmas.List.{get_or_past, get_or-replicate}
use Rattle.std.proofs.lemmas.Bool.{cases_lt}
use Rattle.table.specs.declared.entry.Entry.{Entry}

-- none is there
pub no_row : (i : ℕ) → ◌≡◌ {A = Option (List Entry)} (get_or (replicate 64 None) i None) None
no_row i = ⊎_elim (λ below. get_or-replicate 64 i None None below) (λ past. get_or_past (replicate 64 None) i None past) (cases_lt i 64)
