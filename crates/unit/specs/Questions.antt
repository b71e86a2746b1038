-- What a question answers and does.
use Rattle.std.specs.Prelude.{◌≡◌, ℕ, Bool, ◌&&◌, List, length, Some, None, Ok, Err, Option, Result, ◌==◌}
use Rattle.fringe.specs.declared.place.Place.{Place}
use Rattle.fringe.specs.Fringes.{Meaning, Emptied}
use Rattle.map.specs.Model.{MapModel}
use Rattle.entries.specs.Readings.{closing, slowing}
use Rattle.entries.specs.Tables.{holds, figure}
use Rattle.routes.specs.declared.labels.Label.{Label}
use Rattle.routes.specs.Promise.{LeastCost}
use Rattle.routes.specs.Search.{Answer as SearchAnswer, ops_of, answer}
use Rattle.routes.specs.Asking.{given}
use Rattle.table.specs.Views.{stored}
use Rattle.asking.specs.declared.answers.Answer.{Answer}
use Rattle.asking.specs.Answers.{Answers, route_given}
use Rattle.histories.specs.declared.refusals.Refusal.{Refusal}
use Rattle.unit.specs.declared.units.Unit.{Unit as MapUnit}
use Rattle.unit.specs.Preparing.{wiped}

-- The map as it reads now, over a base map that means `base`: through the slowdowns, and then through the closures.
abbrev pub map_now : {M G : Type 0} → MapModel → MapUnit M G → MapModel
map_now base u = closing (holds u.map.roads.entries.used) (slowing (figure u.map.below.roads.entries.used) base)

-- Neither layer has an entry.
abbrev pub no_entry_now : {M G : Type 0} → MapUnit M G → Bool
no_entry_now u = length u.map.roads.entries.used == 0 && length u.map.below.roads.entries.used == 0

-- The memory that a question is lent: two rows of labels, two fringes and a list.
pub record Lent (K F N : Type 0) : Type 0 where
  pub fore : List (Label K)
  pub back : List (Label K)
  pub near : F
  pub far : N
  pub list : List Place

-- A refused question: nothing has changed.
pub record QuestionRefused {K F N : Type 0} (e : Refusal) (before after : Lent K F N) (a : Result (Answer K) Refusal) : Type 0 where
  pub answer : a ≡ Err e
  pub memory_same : after ≡ before

-- An accepted question: it answers and writes into the list what the definition of the search says, and leaves the first n
-- labels of both rows blank, the rest of them as they were, and both fringes empty and in order.
pub record Answered {K F N : Type 0} (by_rules : SearchAnswer K) (n : ℕ) (well : F → Type 0) (meaning : F → Meaning K) (far_well : N → Type 0) (far_meaning : N → Meaning K)
    (before after : Lent K F N) (a : Result (Answer K) Refusal) : Type 0 where
  pub told : Answer K
  pub answer : a ≡ Ok told
  pub answers : Answers by_rules before.list after.list told
  pub fore_blank : after.fore ≡ wiped n before.fore
  pub back_blank : after.back ≡ wiped n before.back
  pub near_empty : Emptied (meaning before.near) (meaning after.near)
  pub near_in_order : well after.near
  pub far_empty : Emptied (far_meaning before.far) (far_meaning after.far)
  pub far_in_order : far_well after.far

-- A question, by whether it is refused.
abbrev pub Questioning : {K F N : Type 0} → Option Refusal → SearchAnswer K → ℕ → (F → Type 0) → (F → Meaning K) → (N → Type 0) → (N → Meaning K) →
    (before after : Lent K F N) → Result (Answer K) Refusal → Type 0
Questioning (Some e) by_rules n well meaning far_well far_meaning before after a = QuestionRefused e before after a
Questioning None by_rules n well meaning far_well far_meaning before after a = Answered by_rules n well meaning far_well far_meaning before after a

-- What the rules answer: the definition of the search, on the map as it reads now, the base map and the rows as stored.
abbrev pub by_the_rules : {K T M G : Type 0} → (K → T) → (T → T → Bool) → (K → K → K) → K → K → (ℕ → ℕ → K) → (ℕ → K) → MapModel → MapUnit M G → ℕ → ℕ → SearchAnswer K
by_the_rules thing leq plus nil blocked price decoded base u s t =
    answer (ops_of thing leq plus nil blocked) (given nil price (map_now base u) base (stored decoded u.table) (no_entry_now u)) s t

-- The least-cost promise of an answer on a map that means m: a route given runs from s to t over roads open on it, meets no
-- place twice and costs what is answered, and no other route costs less; no way is answered exactly where there is none.
abbrev pub LeastOn : {K T : Type 0} → (K → T) → (T → T → Bool) → (K → K → K) → K → (ℕ → ℕ → K) → MapModel → ℕ → ℕ → List Place → Result (Answer K) Refusal → Type 0
LeastOn thing leq plus nil price m s t list (Ok a) = LeastCost plus nil price m thing leq s t (route_given a.found list)
LeastOn thing leq plus nil price m s t list (Err e) = Unit {0}
