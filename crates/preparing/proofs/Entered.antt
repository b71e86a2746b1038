-- A row filled entry by entry.
use Rattle.std.proofs.Common.{◌≡◌, ℕ, ◌+◌, ◌<◌, ◌≤◌, List, length, get_or, set, replicate, None, Option, sym, ap, ◌∙◌, subst, ⊎_elim, arith, length-set, get_or-set_other, get_or-set_same}
use lib.ListN.{length-replicate}
use Rattle.std.proofs.lemmas.List.{get_or-replicate}
use Rattle.std.proofs.lemmas.Bool.{cases_eq}
use Rattle.fringe.specs.declared.place.Place.{Place}
use Rattle.map.specs.Model.{MapModel}
use Rattle.routes.specs.declared.labels.Label.{Label}
use Rattle.table.specs.declared.entry.Entry.{Entry}
use Rattle.table.specs.Entries.{no_entry}
use Rattle.preparing.specs.Entries.{OwnEntry, EntryBy, RowBy}

module _ {K T : Type 0} (thing : K → T) (decoded : ℕ → K) (blocked : K) (m : MapModel) (labels : List (Label K)) (nil : K) (d : ℕ) (firsts : List (Option Place)) where
  -- what holds once the districts below i have their entries
  pub record Entered (row : List Entry) (i : ℕ) : Type 0 where
    pub sized : length row ≡ 64
    pub own : d < 64 → OwnEntry thing decoded nil m d (get_or row d no_entry)
    pub others : (j : ℕ) → j < i → (j ≡ d → ⊥) → EntryBy thing decoded blocked m labels (get_or firsts j None) (get_or row j no_entry)

  pub entered_none : {row : List Entry} (e : Entry) → row ≡ replicate 64 e → OwnEntry thing decoded nil m d e → Entered row 0
  entered_none {row} e is own = record {
    sized = ap length is ∙ length-replicate 64 e;
    own = λ l. subst (OwnEntry thing decoded nil m d) (sym (ap (λ r. get_or r d no_entry) is ∙ get_or-replicate 64 d e no_entry l)) own;
    others = λ j l _. absurd (omega (arith, l));
  }

  module _ {row : List Entry} {i : ℕ} (so_far : Entered row i) where
    -- the district itself keeps its entry
    pub entered_own : {row' : List Entry} → row' ≡ row → i ≡ d → Entered row' (i + 1)
    entered_own e s = subst (λ r. Entered r (i + 1)) (sym e) (record {
      sized = so_far.sized;
      own = so_far.own;
      others = λ j l n. so_far.others j (omega (arith, l, n, s)) n;
    })

    -- another district
    pub entered_on : {row' : List Entry} (x : Entry) → row' ≡ set row i x → (i ≡ d → ⊥) → i < 64 → EntryBy thing decoded blocked m labels (get_or firsts i None) x → Entered row' (i + 1)
    entered_on x e n l by = subst (λ r. Entered r (i + 1)) (sym e) (record {
      sized = length-set row i x ∙ so_far.sized;
      own = λ k. subst (OwnEntry thing decoded nil m d) (sym (get_or-set_other row i d x no_entry (λ s. n (sym s)))) (so_far.own k);
      others = λ j k z. ⊎_elim
          (λ (s : j ≡ i). subst (λ q. EntryBy thing decoded blocked m labels (get_or firsts q None) (get_or (set row i x) q no_entry)) (sym s)
          (subst (EntryBy thing decoded blocked m labels (get_or firsts i None)) (sym (get_or-set_same row i x no_entry (omega (arith, l, so_far.sized)))) by))
          (λ s. subst (EntryBy thing decoded blocked m labels (get_or firsts j None)) (sym (get_or-set_other row i j x no_entry s)) (so_far.others j (omega (arith, k, s)) z))
          (cases_eq j i);
    })

    pub entered_all : 64 ≤ i → RowBy thing decoded blocked m labels nil d firsts row
    entered_all l = record { own = so_far.own; others = λ j k n. so_far.others j (omega (arith, k, l)) n }
