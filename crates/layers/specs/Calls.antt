-- What a call on a layer answers and does. A layer is of a kind, as in Layers.antt.
use Rattle.std.specs.Prelude.{◌≡◌, ℕ, List, length, is_some, Result, MatchResult}
use Rattle.map.specs.Model.{MapModel}
use Rattle.entries.specs.declared.entry.Entry.{Ghosts as EntryOf}
use Rattle.entries.specs.declared.entry.Places.{Ghosts as PlacesOf}
use Rattle.entries.specs.declared.refusals.Refusal.{Refusal}
use Rattle.entries.specs.Entries.{entry_for}
use Rattle.layers.specs.declared.layer.Layer.{Layer}
use Rattle.layers.specs.Histories.{ByHistory}
use Rattle.layers.specs.Layers.{on_road, table_answer, Given, Left, answer_by}
use Rattle.layers.specs.Rules.{Rules}

-- A call on a layer over a map that means m. An accepted one gives its road the entry, and a refused one changes nothing
-- at all.
pub record Called {E C V G A : Type 0} {e : EntryOf E} {p : PlacesOf A E} (road_of : E → ℕ) (again : Result Unit Refusal) (k : Rules E C V) (m : MapModel) (call : C) (before after : Layer G E A e p) (a : Result Unit Refusal) : Type 0 where
  pub answer : a ≡ on_road (m.road (k.named call)) (table_answer again (k.entry_of call) (is_some (entry_for road_of before.roads.entries.used (k.named call))) (length before.roads.entries.used))
  pub change : MatchResult a (λ _. Given road_of (k.entry_of call) (k.named call) before.roads.entries.used after.roads.entries.used) (λ _. after ≡ before)
  pub below : after.below ≡ before.below
  pub history : (h : List C) → Left road_of k h before.roads.entries.used → ByHistory (answer_by again k m) (λ h l. Left road_of k h l.roads.entries.used) h call a after
