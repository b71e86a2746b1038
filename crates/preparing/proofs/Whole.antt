-- The row of a district, from the beginning of the spread to its end.
use Rattle.std.proofs.Common.{◌≡◌, ℕ, Bool, List, replicate, None, Option, ap, subst, ⊎_elim, arith}
use mathlib.Core.Option.{none}
use lib.ListN.{length-replicate}
use Rattle.std.proofs.lemmas.List.{get_or_past, get_or-replicate}
use Rattle.std.proofs.lemmas.Bool.{cases_lt}
use Rattle.fringe.specs.declared.place.Place.{Place}
use Rattle.fringe.specs.Orders.{TotalOrder}
use Rattle.map.specs.Model.{MapModel, WellFormed}
use Rattle.measure.specs.Costs.{CostLaws}
use Rattle.routes.specs.declared.labels.Label.{Label}
use Rattle.halves.specs.Labels.{spot}
use Rattle.routes.specs.Parts.{waiting}
use Rattle.preparing.specs.declared.Prepared.{Prepared}
use Rattle.preparing.specs.Beginnings.{Sown}
use Rattle.preparing.specs.Firsts.{number_in, first_at}
use Rattle.preparing.specs.Runs.{Ran}
use Rattle.preparing.specs.Entries.{RowBy}
use Rattle.preparing.specs.Rows.{Ready, RowPrepared}
use Rattle.preparing.proofs.Swept as swept
use Rattle.preparing.proofs.RowIs as row_is

-- at the beginning no district has a first place
no_first : (j : ℕ) → first_at (replicate 64 None) j ≡ none
no_first j = ap number_in (⊎_elim (λ l. get_or-replicate 64 j None None l) (λ l. get_or_past (replicate 64 None) j None l) (cases_lt j 64))

module _ {K T : Type 0} (thing : K → T) (leq : T → T → Bool) (order : TotalOrder leq)
    (plus : K → K → K) (nil blocked : K) (price : ℕ → ℕ → K) (code : K → ℕ) (laws : CostLaws thing leq plus nil blocked price code) (decoded : ℕ → K)
    (m : MapModel) (fits : WellFormed m) (d : ℕ) where
  pub row_prepared : {sized capacity : ℕ} → Ready m d sized capacity → (labels₀ labels : List (Label K)) (firsts : List (Option Place)) (r : Prepared) →
      Sown m d nil sized labels₀ → Ran thing leq plus price m labels₀ (replicate 64 None) r.taken labels firsts → RowBy thing decoded blocked m labels nil d firsts r.row →
      RowPrepared thing leq plus nil blocked price decoded m d r
  row_prepared ready labels₀ labels firsts r sown ran by = record {
    holds = row_is.row_holds thing leq order plus nil blocked price code laws decoded m fits d ready.known r.taken labels firsts r.row kept rest by;
    at_most = omega (arith, ran.few, sown.sized, ready.sized);
    at_least = row_is.few_linked thing leq order plus nil blocked price code laws decoded m fits d ready.known r.taken labels firsts r.row kept rest by;
  }
    where
      all : Sown m d nil m.places labels₀
      all = subst (λ z. Sown m d nil z labels₀) ready.sized sown

      kept : swept.Keeps thing leq order plus nil blocked price code laws m fits d r.taken labels firsts
      kept = swept.keeps thing leq order plus nil blocked price code laws m fits d labels₀ (replicate 64 None) all (length-replicate {A = Option Place} 64 None) no_first ran.runs

      rest : (v : ℕ) → waiting (spot labels v) ≡ None
      rest = swept.at_rest thing leq order plus nil blocked price code laws m fits d labels₀ (replicate 64 None) all (length-replicate {A = Option Place} 64 None) no_first ran
