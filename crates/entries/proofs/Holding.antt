-- A table with what holds of it is as it was where the table is.
use Rattle.std.proofs.Common.{◌≡◌, Ok, Err, Result, MatchResult, sym, ap, subst}
use Rattle.entries.specs.declared.entry.Entry.{Ghosts as EntryOf}
use Rattle.entries.specs.declared.entry.Places.{Ghosts as PlacesOf}
use Rattle.entries.specs.declared.held.Held.{Held}
use Rattle.entries.specs.declared.refusals.Refusal.{Refusal}
use Rattle.entries.specs.Entries.{Kept, Limited}
use Rattle.entries.specs.Limits.{limited_prop}

module _ {E A : Type 0} {e : EntryOf E} {p : PlacesOf A E} where
  abbrev holding : (t : Kept E) → Limited e.road t → Held E A e p
  holding t l = record { entries = t; limited = l }

  stays : (before : Held E A e p) (t : Kept E) → before.entries ≡ t → (l : Limited e.road t) → holding t l ≡ before
  stays before t same = subst (λ z. (l : Limited e.road z) → holding z l ≡ before) same (λ l. ap (holding before.entries) (limited_prop e.road before.entries l before.limited))

  pub changed : (P : Type 0) (before : Held E A e p) (t : Kept E) (l : Limited e.road t) (a : Result Unit Refusal) →
      MatchResult a (λ _. P) (λ _. t ≡ before.entries) → MatchResult a (λ _. P) (λ _. ◌≡◌ {A = Held E A e p} (holding t l) before)
  changed P before t l (Ok u) c = c
  changed P before t l (Err r) c = stays before t (sym c) l
