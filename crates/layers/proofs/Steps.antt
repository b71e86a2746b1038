-- A call leaves a layer as its history says.
use Rattle.std.proofs.Common.{◌≡◌, ℕ, ◌+◌, ◌<◌, Bool, true, false, cond, eqb, List, ◌∷◌, length, is_some, Some, None, Ok, Err, Option, Result, sym, refl, ap, ◌∙◌, subst, arith, MatchResult}
use Rattle.std.proofs.lemmas.Bool.{eq-eqb, ne_eqb, false≢true}
use Rattle.map.specs.declared.roads.Road.{Road}
use Rattle.map.specs.Model.{MapModel, WellFormed}
use Rattle.entries.specs.declared.entry.Entry.{Ghosts as EntryOf}
use Rattle.entries.specs.declared.entry.Places.{Ghosts as PlacesOf}
use Rattle.entries.specs.declared.refusals.Refusal.{Refusal}
use Rattle.entries.specs.Entries.{Kept, entry_for, Limited}
use Rattle.entries.specs.Limits.{limited_prop}
use Rattle.layers.specs.declared.layer.Layer.{Layer}
use Rattle.layers.specs.Histories.{last_on, further, ByHistory}
use Rattle.layers.specs.Calls.{Called}
use Rattle.layers.specs.Layers.{on_road, table_answer, Given, said_by, Left, answer_by}
use Rattle.layers.specs.Rules.{Rules, RuleLaws}
use Rattle.layers.proofs.Counting.{many_step}

-- What a call on a layer answers and makes of its entries, said of entries alone, limited or not.
pub record CalledOn {E C V : Type 0} (road_of : E → ℕ) (again : Result Unit Refusal) (k : Rules E C V) (m : MapModel) (call : C) (before after : List E) (a : Result Unit Refusal) : Type 0 where
  pub answer : a ≡ on_road (m.road (k.named call)) (table_answer again (k.entry_of call) (is_some (entry_for road_of before (k.named call))) (length before))
  pub change : MatchResult a (λ _. Given road_of (k.entry_of call) (k.named call) before after) (λ _. after ≡ before)
  pub history : (h : List C) → Left road_of k h before → ByHistory (answer_by again k m) (Left road_of k) h call a after

module _ {E C V : Type 0} (road_of : E → ℕ) (again : Result Unit Refusal) (k : Rules E C V) (laws : RuleLaws road_of k) where
  -- what one call more says
  said_more : (h : List C) (call : C) (q : ℕ) → said_by k (call ∷ h) q ≡ cond (eqb (k.named call) q) (k.leaves (Some call)) (said_by k h q)
  said_more h call q =
      elim (eqb (k.named call) q) as (λ b. k.leaves (cond b (Some call) (last_on k.named h q)) ≡ cond b (k.leaves (Some call)) (said_by k h q)) [ true ↦ refl | false ↦ refl ]

  -- what the entries show where one of them changes
  shown : (b : Bool) (o p : Option E) → k.shows (cond b o p) ≡ cond b (k.shows o) (k.shows p)
  shown true o p = refl
  shown false o p = refl

  module _ (h : List C) (call : C) (before after : List E) (own : Option E) (is : k.entry_of call ≡ Ok own) (below : k.named call < 65536) (was : Left road_of k h before) where
    left_one : ((q : ℕ) → entry_for road_of after q ≡ cond (eqb (k.named call) q) own (entry_for road_of before q)) →
        length after + cond (is_some (entry_for road_of before (k.named call))) 1 0 ≡ length before + cond (is_some own) 1 0 → Left road_of k (call ∷ h) after
    left_one reads count =
        let r = k.named call in
        let here : k.counted (said_by k (call ∷ h) r) ≡ is_some own = ap k.counted (said_more h call r ∙ rw (eq-eqb r r refl) (sym (laws.says call own is))) ∙ laws.counts own in
        let there : k.counted (said_by k h r) ≡ is_some (entry_for road_of before r) = ap k.counted (sym (was.reads r)) ∙ laws.counts (entry_for road_of before r) in
        let step = rw (here, there) at (many_step (λ q. k.counted (said_by k h q)) (λ q. k.counted (said_by k (call ∷ h) q)) r 65536 below
        (λ q ne. ap k.counted (said_more h call q ∙ rw (ne_eqb r q (λ e. ne (sym e)))))) in
        record {
          reads = λ q. ap k.shows (reads q) ∙ shown (eqb r q) own (entry_for road_of before q)
              ∙ ap (λ v. cond (eqb r q) v (k.shows (entry_for road_of before q))) (laws.says call own is)
              ∙ ap (cond (eqb r q) (k.leaves (Some call))) (was.reads q) ∙ sym (said_more h call q);
          count = omega (arith, was.count, count, step);
        }

  module _ (h : List C) (call : C) (before after : List E) (below : k.named call < 65536) (was : Left road_of k h before) where
    counted : (b : Bool) (m n : ℕ) → m ≡ n + cond b 0 1 → m + cond b 1 0 ≡ n + 1
    counted true m n e = omega arith
    counted false m n e = omega arith

    left_given : (o : Result (Option E) Refusal) → k.entry_of call ≡ o → Given road_of o (k.named call) before after → Left road_of k (call ∷ h) after
    left_given (Err e) is g = absurd g
    left_given (Ok None) is g = left_one h call before after None is below was g.reads (rw g.there (omega (arith, g.count)))
    left_given (Ok (Some e)) is g =
        let own = laws.own_road call e is in
        left_one h call before after (Some e) is below was (λ q. g.reads q ∙ ap (λ r. cond (eqb r q) (Some e) (entry_for road_of before q)) own)
        (counted (is_some (entry_for road_of before (k.named call))) (length after) (length before) (g.count ∙ ap (λ r. length before + cond (is_some (entry_for road_of before r)) 0 1) own))

  -- ---- a call on a road that the map below has
  module _ (m : MapModel) (w : WellFormed m) (call : C) (there : is_some (m.road (k.named call)) ≡ true) where
    on : (o : Option Road) (a : Result Unit Refusal) → is_some o ≡ true → on_road o a ≡ a
    on (Some x) a e = refl
    on None a e = absurd (false≢true e)

    -- its number is below 65,536
    numbered : (o : Option Road) → m.road (k.named call) ≡ o → is_some o ≡ true → k.named call < 65536
    numbered (Some x) is e = omega (arith, (w.road_fits (k.named call) x is).numbered, w.few_roads)
    numbered None is e = absurd (false≢true e)

    -- on entries, limited or not
    module _ (before after : List E) where
      left_by : (h : List C) (a : Result Unit Refusal) → Left road_of k h before →
          MatchResult a (λ _. Given road_of (k.entry_of call) (k.named call) before after) (λ _. after ≡ before) → Left road_of k (further h call a) after
      left_by h (Ok u) was c = left_given h call before after (numbered (m.road (k.named call)) refl there) was (k.entry_of call) refl c
      left_by h (Err r) was c = subst (Left road_of k h) (sym c) was

      entered : (a : Result Unit Refusal) →
          a ≡ table_answer again (k.entry_of call) (is_some (entry_for road_of before (k.named call))) (length before) →
          MatchResult a (λ _. Given road_of (k.entry_of call) (k.named call) before after) (λ _. after ≡ before) →
          CalledOn road_of again k m call before after a
      entered a e c = record {
        answer = e ∙ sym (on (m.road (k.named call)) _ there);
        change = c;
        history = λ h was. record {
          answered = e ∙ sym (on (m.road (k.named call)) _ there)
              ∙ ap (λ b. on_road (m.road (k.named call)) (table_answer again (k.entry_of call) b (length before))) (sym (laws.counts (entry_for road_of before (k.named call))) ∙ ap k.counted (was.reads (k.named call)))
              ∙ ap (λ n. on_road (m.road (k.named call)) (table_answer again (k.entry_of call) (k.counted (said_by k h (k.named call))) n)) was.count;
          left = left_by h a was c;
        };
      }

      -- by what its road is to have
      pub called_on : (o : Result (Option E) Refusal) → k.entry_of call ≡ o → (a : Result Unit Refusal) →
          a ≡ table_answer again o (is_some (entry_for road_of before (k.named call))) (length before) →
          MatchResult a (λ _. Given road_of o (k.named call) before after) (λ _. after ≡ before) →
          CalledOn road_of again k m call before after a
      called_on o is a e c =
          entered a (subst (λ z. a ≡ table_answer again z (is_some (entry_for road_of before (k.named call))) (length before)) (sym is) e)
          (subst (λ z. MatchResult a (λ _. Given road_of z (k.named call) before after) (λ _. after ≡ before)) (sym is) c)

    -- on a layer
    module _ {G A : Type 0} {e : EntryOf E} {p : PlacesOf A E} (before : Layer G E A e p) (t : Kept E) (limited : Limited e.road t) where
      -- the layer with another table
      abbrev over : (s : Kept E) → Limited e.road s → Layer G E A e p
      over s l = record { below = before.below; roads = record { entries = s; limited = l } }

      abbrev layer : Layer G E A e p
      layer = over t limited

      -- it is as it was where its table is
      stays : (s : Kept E) → before.roads.entries ≡ s → (l : Limited e.road s) → over s l ≡ before
      stays s c = subst (λ z. (l : Limited e.road z) → over z l ≡ before) c (λ l. ap (over before.roads.entries) (limited_prop e.road before.roads.entries l before.roads.limited))

      change_is : (P : Type 0) (a : Result Unit Refusal) → MatchResult a (λ _. P) (λ _. t ≡ before.roads.entries) → MatchResult a (λ _. P) (λ _. ◌≡◌ {A = Layer G E A e p} layer before)
      change_is P (Ok u) c = c
      change_is P (Err r) c = stays t (sym c) limited

      -- and so are its entries
      used_is : (P : Type 0) (a : Result Unit Refusal) → MatchResult a (λ _. P) (λ _. t ≡ before.roads.entries) → MatchResult a (λ _. P) (λ _. t.used ≡ before.roads.entries.used)
      used_is P (Ok u) c = c
      used_is P (Err r) c = ap (λ (s : Kept E). s.used) c

      called : (a : Result Unit Refusal) →
          a ≡ table_answer again (k.entry_of call) (is_some (entry_for road_of before.roads.entries.used (k.named call))) (length before.roads.entries.used) →
          MatchResult a (λ _. Given road_of (k.entry_of call) (k.named call) before.roads.entries.used t.used) (λ _. t ≡ before.roads.entries) →
          Called road_of again k m call before layer a
      called a e c =
          let entries = entered before.roads.entries.used t.used a e (used_is (Given road_of (k.entry_of call) (k.named call) before.roads.entries.used t.used) a c) in record {
            answer = entries.answer;
            change = change_is (Given road_of (k.entry_of call) (k.named call) before.roads.entries.used t.used) a c;
            below = refl;
            history = λ h was. let x = entries.history h was in record { answered = x.answered; left = x.left };
          }

      -- by what its road is to have
      pub called_for : (o : Result (Option E) Refusal) → k.entry_of call ≡ o → (a : Result Unit Refusal) →
          a ≡ table_answer again o (is_some (entry_for road_of before.roads.entries.used (k.named call))) (length before.roads.entries.used) →
          MatchResult a (λ _. Given road_of o (k.named call) before.roads.entries.used t.used) (λ _. t ≡ before.roads.entries) →
          Called road_of again k m call before layer a
      called_for o is a e c =
          called a (subst (λ z. a ≡ table_answer again z (is_some (entry_for road_of before.roads.entries.used (k.named call))) (length before.roads.entries.used)) (sym is) e)
          (subst (λ z. MatchResult a (λ _. Given road_of z (k.named call) before.roads.entries.used t.used) (λ _. t ≡ before.roads.entries)) (sym is) c)
