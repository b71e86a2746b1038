-- A call says of its road what the entry says that it gives it, and what each call answers.
use Rattle.std.proofs.Common.{◌≡◌, ℕ, Bool, true, false, cond, ltb, List, is_some, Some, None, Ok, Err, Option, refl, sym, ap, ltb-false}
use Rattle.map.specs.declared.numbers.RoadId.{RoadId}
use Rattle.map.specs.Model.{MapModel}
use Rattle.entries.specs.declared.refusals.Refusal.TheVariants.{TooSlow}
use Rattle.entries.specs.declared.slowdown.Figure.{Figure}
use Rattle.entries.specs.Answers.{put_answer}
use Rattle.entries.specs.Entries.{closed_road}
use Rattle.entries.specs.Slowdowns.{slow_road, slowdown_if}
use Rattle.layers.specs.declared.calls.ClosureCall.{ClosureCall}
use Rattle.layers.specs.declared.calls.ClosureCall.TheVariants.{Close, Open}
use Rattle.layers.specs.declared.calls.SlowdownCall.{SlowdownCall}
use Rattle.layers.specs.declared.calls.SlowdownCall.TheVariants.{Slow, Clear}
use Rattle.layers.specs.Closures.{closure_rules, closed_by, closures_by, close_answer, open_answer, answer_by as closures_answer_by}
use Rattle.layers.specs.Layers.{on_road, table_answer}
use Rattle.layers.specs.Rules.{RuleLaws}
use Rattle.layers.specs.Slowdowns.{slowdown_rules, some_entry, figure_by, figures_by, slow_answer, clear_answer, answer_by as slowdowns_answer_by}

pub closure_laws : RuleLaws closed_road closure_rules
closure_laws = record {
  blank = refl;
  counts = λ own. refl;
  own_road = own_road;
  says = says;
}
  where
    own_road : (call : ClosureCall) (e : RoadId) → closure_rules.entry_of call ≡ Ok (Some e) → closed_road e ≡ closure_rules.named call
    own_road (Close q) e is = let z : q ≡ e = cc in ap closed_road (sym z)
    own_road (Open q) e is = cc

    says : (call : ClosureCall) (own : Option RoadId) → closure_rules.entry_of call ≡ Ok own → closure_rules.shows own ≡ closure_rules.leaves (Some call)
    says (Close q) own is = let z : own ≡ Some q = cc in ap closure_rules.shows z
    says (Open q) own is = let z : own ≡ None = cc in ap closure_rules.shows z

own_road_if : (q : RoadId) (f : ℕ) (e : Figure) (over : Bool) (o : ltb 60000 f ≡ over) → some_entry (slowdown_if q f over o) ≡ Ok (Some e) → slow_road e ≡ q.0
own_road_if q f e true o is = cc
own_road_if q f e false o is = let z : e ≡ record { road = q; seconds = f; short = ltb-false _ _ o } = cc in ap slow_road z

says_if : (q : RoadId) (f : ℕ) (own : Option Figure) (over : Bool) (o : ltb 60000 f ≡ over) → some_entry (slowdown_if q f over o) ≡ Ok own → slowdown_rules.shows own ≡ Some f
says_if q f own true o is = cc
says_if q f own false o is = let z : own ≡ Some (record { road = q; seconds = f; short = ltb-false _ _ o }) = cc in ap slowdown_rules.shows z

-- A table answers so that is to set a figure, which is or is not too long.
set_if : (q : RoadId) (f : ℕ) (own : Bool) (n : ℕ) (over : Bool) (o : ltb 60000 f ≡ over) →
    table_answer (Ok tt) (some_entry (slowdown_if q f over o)) own n ≡ cond over (Err TooSlow) (put_answer (Ok tt) own n)
set_if q f own n true o = refl
set_if q f own n false o = refl

pub slowdown_laws : RuleLaws slow_road slowdown_rules
slowdown_laws = record {
  blank = refl;
  counts = counts;
  own_road = own_road;
  says = says;
}
  where
    counts : (own : Option Figure) → slowdown_rules.counted (slowdown_rules.shows own) ≡ is_some own
    counts None = refl
    counts (Some e) = refl

    own_road : (call : SlowdownCall) (e : Figure) → slowdown_rules.entry_of call ≡ Ok (Some e) → slow_road e ≡ slowdown_rules.named call
    own_road (Slow q f) e is = own_road_if q f e (ltb 60000 f) refl is
    own_road (Clear q) e is = cc

    says : (call : SlowdownCall) (own : Option Figure) → slowdown_rules.entry_of call ≡ Ok own → slowdown_rules.shows own ≡ slowdown_rules.leaves (Some call)
    says (Slow q f) own is = says_if q f own (ltb 60000 f) refl is
    says (Clear q) own is = let z : own ≡ None = cc in ap slowdown_rules.shows z

-- What each call answers by the history.
module _ (m : MapModel) where
  pub close_answers : (h : List ClosureCall) (q : RoadId) → closures_answer_by m h (Close q) ≡ close_answer (m.road q.0) (closed_by h q.0) (closures_by h)
  close_answers h q = refl

  pub open_answers : (h : List ClosureCall) (q : RoadId) → closures_answer_by m h (Open q) ≡ open_answer (m.road q.0) (closed_by h q.0)
  open_answers h q = refl

  pub slow_answers : (h : List SlowdownCall) (q : RoadId) (f : ℕ) → slowdowns_answer_by m h (Slow q f) ≡ slow_answer (m.road q.0) f (figure_by h q.0) (figures_by h)
  slow_answers h q f = ap (on_road (m.road q.0)) (set_if q f (is_some (figure_by h q.0)) (figures_by h) (ltb 60000 f) refl)

  pub clear_answers : (h : List SlowdownCall) (q : RoadId) → slowdowns_answer_by m h (Clear q) ≡ clear_answer (m.road q.0) (is_some (figure_by h q.0))
  clear_answers h q = refl
