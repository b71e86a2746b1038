-- Calls in turn on a new layer leave it as their history says.
use Rattle.std.proofs.Common.{◌≡◌, ℕ, ◌+◌, ◌<◌, ◌≤◌, List, length, get_or, take, Result, sym, ap, ◌∙◌, subst}
use Rattle.std.proofs.lemmas.List.{take_all}
use Rattle.std.proofs.lemmas.List.Sums.{fold_more}
use Rattle.map.specs.Model.{MapModel}
use Rattle.entries.specs.declared.entry.Entry.{Ghosts as EntryOf}
use Rattle.entries.specs.declared.entry.Places.{Ghosts as PlacesOf}
use Rattle.entries.specs.declared.refusals.Refusal.{Refusal}
use Rattle.layers.specs.declared.layer.Layer.{Layer}
use Rattle.layers.specs.Histories.{further, history_of, ByHistory}
use Rattle.layers.specs.Layers.{Left, answer_by}
use Rattle.layers.specs.Rules.{Rules}

module _ {E C V G A : Type 0} {e : EntryOf E} {p : PlacesOf A E} (road_of : E → ℕ) (again : Result Unit Refusal) (k : Rules E C V) (f : G → MapModel) where
  -- after the first i calls the layer c, which was `was`, is as its history says, over the same map
  pub record Going (was : Layer G E A e p) (calls : List C) (i : ℕ) (c : Layer G E A e p) : Type 0 where
    pub same : c.below ≡ was.below
    pub left : (h : List C) → Left road_of k h was.roads.entries.used → Left road_of k (history_of (answer_by again k (f was.below)) h (take i calls)) c.roads.entries.used

  pub going_more : (was : Layer G E A e p) (calls : List C) (i : ℕ) (before after : Layer G E A e p) (call : C) (a : Result Unit Refusal) →
      Going was calls i before → i < length calls → call ≡ get_or calls i call → after.below ≡ before.below →
      ((h : List C) → Left road_of k h before.roads.entries.used → ByHistory (answer_by again k (f before.below)) (λ h (l : Layer G E A e p). Left road_of k h l.roads.entries.used) h call a after) →
      Going was calls (i + 1) after
  going_more was calls i before after call a g l is s by =
      let answer = answer_by again k (f was.below) in
      record {
        same = s ∙ g.same;
        left = λ h w.
            let past = history_of answer h (take i calls) in
            let b = by past (g.left h w) in
            let answered : a ≡ answer past call = b.answered ∙ ap (λ x. answer_by again k (f x) past call) g.same in
            let step = fold_more (λ (x : List C) y. further x y (answer x y)) h calls i call l in
            let now : further past call a ≡ history_of answer h (take (i + 1) calls) = ap (further past call) answered ∙ ap (λ y. further past y (answer past y)) is ∙ sym step in
            subst (λ (x : List C). Left road_of k x after.roads.entries.used) now b.left;
      }

  pub gone : (was : Layer G E A e p) (calls : List C) (i : ℕ) (c : Layer G E A e p) → length calls ≤ i → Going was calls i c →
      (h : List C) → Left road_of k h was.roads.entries.used → Left road_of k (history_of (answer_by again k (f was.below)) h calls) c.roads.entries.used
  gone was calls i c l g h w = subst (λ xs. Left road_of k (history_of (answer_by again k (f was.below)) h xs) c.roads.entries.used) (take_all i calls l) (g.left h w)
