-- The calls on a unit by the members of its traits: `o` are those of the order of costs, `k` those of their measure, and
-- `model` gives the meaning of a base map.
use Rattle.std.specs.Prelude.{ℕ, List, length, Result}
use Rattle.fringe.specs.declared.place.Place.{Place}
use Rattle.fringe.specs.declared.order.Order.{Ghosts as OrderOf}
use Rattle.fringe.specs.declared.fringes.Fringe.{Ghosts as FringeOf}
use Rattle.measure.specs.declared.measures.Measure.{Ghosts as MeasureOf}
use Rattle.map.specs.declared.numbers.RoadId.{RoadId}
use Rattle.map.specs.Model.{MapModel}
use Rattle.routes.specs.declared.labels.Label.{Label}
use Rattle.asking.specs.declared.answers.Answer.{Answer}
use Rattle.histories.specs.declared.calls.Call.{Call}
use Rattle.histories.specs.declared.refusals.Refusal.{Refusal}
use Rattle.histories.specs.Histories.{LeftBy}
use Rattle.unit.specs.declared.units.Unit.{Unit as MapUnit}
use Rattle.unit.specs.Refusing.{prepare_refusal, question_refusal}
use Rattle.unit.specs.Calls as calls
use Rattle.unit.specs.Preparing as preparing
use Rattle.unit.specs.Questions.{Lent, Questioning, by_the_rules, LeastOn}

module _ {K : Type 0} (o : OrderOf K) (k : MeasureOf K) where
  -- The history h leaves the unit so, over a base map that means `base`.
  abbrev pub Left : {M G : Type 0} → (base : MapModel) → List Call → MapUnit M G → Type 0
  Left base h u = LeftBy o.thing o.leq k.plus k.nil k.top k.cost k.decoded base h u.map u.table

  -- The least-cost promise of an answer on a map that means m.
  abbrev pub Least : MapModel → (s t : ℕ) → List Place → Result (Answer K) Refusal → Type 0
  Least m s t list a = LeastOn o.thing o.leq k.plus k.nil k.cost m s t list a

  module _ {M G : Type 0} (model : G → MapModel) where
    -- A close, an open, a slow and a clear of a road.
    abbrev pub Closing : RoadId → (before after : MapUnit M G) → Result Unit Refusal → Type 0
    Closing road before after a = calls.Closing o.thing o.leq k.plus k.nil k.top k.cost k.decoded (model before.map.below.below) road before after a

    abbrev pub Opening : RoadId → (before after : MapUnit M G) → Result Unit Refusal → Type 0
    Opening road before after a = calls.Opening o.thing o.leq k.plus k.nil k.top k.cost k.decoded (model before.map.below.below) road before after a

    abbrev pub Slowing : RoadId → ℕ → (before after : MapUnit M G) → Result Unit Refusal → Type 0
    Slowing road f before after a = calls.Slowing o.thing o.leq k.plus k.nil k.top k.cost k.decoded (model before.map.below.below) road f before after a

    abbrev pub Clearing : RoadId → (before after : MapUnit M G) → Result Unit Refusal → Type 0
    Clearing road before after a = calls.Clearing o.thing o.leq k.plus k.nil k.top k.cost k.decoded (model before.map.below.below) road before after a

    -- A prepare of the district d, which is lent two rows of labels and a fringe.
    abbrev pub Preparing : {F : Type 0} → FringeOf F K → ℕ → (before after : MapUnit M G) → (first first' second second' : List (Label K)) →
        (fringe fringe' : F) → Result ℕ Refusal → Type 0
    Preparing f d before after first first' second second' fringe fringe' a =
        preparing.Preparing o.thing o.leq k.plus k.nil k.top k.cost k.decoded (model before.map.below.below)
        (prepare_refusal (model before.map.below.below) d (length first) (length second) (f.meaning fringe).capacity)
        d before after first first' second second' f.well f.meaning fringe fringe' a

    -- A question from s to t, which is lent memory: it is refused, or answered by the rules.
    abbrev pub Answering : {F N : Type 0} → FringeOf F K → FringeOf N K → MapUnit M G → (s t : ℕ) → (before after : Lent K F N) → Result (Answer K) Refusal → Type 0
    Answering f n u s t before after a =
        Questioning (question_refusal (model u.map.below.below) s t (length before.fore) (length before.back) (f.meaning before.near).capacity (n.meaning before.far).capacity (length before.list))
        (by_the_rules o.thing o.leq k.plus k.nil k.top k.cost k.decoded (model u.map.below.below) u s t)
        (model u.map.below.below).places f.well f.meaning n.well n.meaning before after a
