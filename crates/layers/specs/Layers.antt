-- What the history of a layer makes of it. A layer is of a kind: `road_of` gives the road of an entry, `again` is what
-- entering a road answers that has an entry, and `k` is what the kind goes by.
use Rattle.std.specs.Prelude.{◌≡◌, ℕ, Bool, List, length, Some, None, Ok, Err, Option, Result}
use Rattle.map.specs.declared.roads.Road.{Road}
use Rattle.map.specs.Model.{MapModel}
use Rattle.entries.specs.declared.refusals.Refusal.{Refusal}
use Rattle.entries.specs.declared.refusals.Refusal.TheVariants.{NoSuchRoad}
use Rattle.entries.specs.Answers.{put_answer, remove_answer}
use Rattle.entries.specs.Entries.{entry_for, Put, Lost}
use Rattle.layers.specs.Histories.{last_on, many}
use Rattle.layers.specs.Rules.{Rules}

-- The answer a where the map below has the road, and otherwise that there is no such road (11).
abbrev pub on_road : (below : Option Road) → Result Unit Refusal → Result Unit Refusal
on_road None a = Err NoSuchRoad
on_road (Some x) a = a

-- What a table answers that is to give a road that entry, if any, or to refuse it: `there` says whether the road has an
-- entry, and `count` how many there are.
abbrev pub table_answer : {E : Type 0} (again : Result Unit Refusal) → Result (Option E) Refusal → (there : Bool) (count : ℕ) → Result Unit Refusal
table_answer again (Err r) there count = Err r
table_answer again (Ok None) there count = remove_answer there
table_answer again (Ok (Some e)) there count = put_answer again there count

-- The road r has that entry, or none, and every other road's entry is as before.
abbrev pub Given : {E : Type 0} → (E → ℕ) → Result (Option E) Refusal → ℕ → List E → List E → Type 0
Given road_of (Err e) r before after = ⊥
Given road_of (Ok None) r before after = Lost road_of before after r
Given road_of (Ok (Some e)) r before after = Put road_of before after e

-- What the history says of the road r: the last accepted call on it decides.
abbrev pub said_by : {E C V : Type 0} → Rules E C V → List C → ℕ → V
said_by k h r = k.leaves (last_on k.named h r)

-- How many roads have an entry by the history. Every road's number is below 65,536.
abbrev pub count_by : {E C V : Type 0} → Rules E C V → List C → ℕ
count_by k h = many (λ r. k.counted (said_by k h r)) 65536

-- The history leaves the entries so: they say of each road what it says, and are as many.
pub record Left {E C V : Type 0} (road_of : E → ℕ) (k : Rules E C V) (h : List C) (es : List E) : Type 0 where
  pub reads : (r : ℕ) → k.shows (entry_for road_of es r) ≡ said_by k h r
  pub count : length es ≡ count_by k h

-- What a call answers: the map below and the history decide it.
abbrev pub answer_by : {E C V : Type 0} → Result Unit Refusal → Rules E C V → MapModel → List C → C → Result Unit Refusal
answer_by again k m h call = on_road (m.road (k.named call)) (table_answer again (k.entry_of call) (k.counted (said_by k h (k.named call))) (count_by k h))
