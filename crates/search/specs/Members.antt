-- The search by the members of its traits: `o` are those of the order of costs, `k` those of their measure, and `f` and `n`
-- those of the fringes.
use Rattle.std.specs.Prelude.{ℕ, List, Option}
use Rattle.fringe.specs.declared.order.Order.{Ghosts as OrderOf}
use Rattle.fringe.specs.declared.fringes.Fringe.{Ghosts as FringeOf}
use Rattle.measure.specs.declared.measures.Measure.{Ghosts as MeasureOf}
use Rattle.map.specs.Model.{MapModel}
use Rattle.routes.specs.declared.labels.Label.{Label}
use Rattle.routes.specs.Asking.{given}
use Rattle.routes.specs.Members.{operations}
use Rattle.routes.specs.Search.{Given, Both, search_best}
use Rattle.table.specs.Views.{stored}
use Rattle.turns.specs.declared.findings.Findings.{Findings}
use Rattle.search.specs.declared.guides.Guide.{Guide}
use Rattle.search.specs.declared.guides.Question.{Question}
use Rattle.search.specs.Asked.{Asked}
use Rattle.search.specs.Rounds.{Begun}
use Rattle.search.specs.Turns.{Turning, Taken}

module _ {G B : Type 0} (now_of : G → MapModel) (base_of : B → MapModel) (q : Question G B) where
  -- The question may be asked with rows of so many labels, and fringes of such capacities.
  abbrev pub AskedIn : (fore back near far : ℕ) → Type 0
  AskedIn fore back near far = Asked (now_of q.map.now) (base_of q.base.now).places q.start.0 q.goal.0 fore back near far

  module _ {K : Type 0} (o : OrderOf K) (k : MeasureOf K) where
    -- What the search is given for the question.
    abbrev pub given_for : Given K
    given_for = given k.nil k.cost (now_of q.map.now) (base_of q.base.now) (stored k.decoded q.table.now) q.pairs

    -- The state in which the search for it ends.
    abbrev pub ended : Both K
    ended = search_best (operations o k) given_for q.start.0 q.goal.0

module _ {K F N : Type 0} (o : OrderOf K) (k : MeasureOf K) (f : FringeOf F K) (n : FringeOf N K) where
  -- A search begins with these guides, rows, fringes and findings.
  abbrev pub Begins : {B : Type 0} (m : MapModel) (base_of : B → MapModel) (along against : Guide B) (near : F) (far : N)
      (fore back : List (Label K)) (found : Findings K) (G : Given K) (s t : ℕ) (x : Both K) → Type 0
  Begins m base_of along against near far fore back found G s t x =
      Begun o.thing o.leq k.plus k.nil k.top k.cost k.code k.decoded m (base_of along.base.now) (base_of against.base.now) along against
      (f.well near) (f.meaning near) (n.well far) (n.meaning far) fore back found G s t x

  -- A side is about to take its turn.
  abbrev pub AtTurn : (m : MapModel) (places : ℕ) (back_of : ℕ → ℕ) (near : F) (far : N) (mine theirs : List (Label K)) (found : Findings K)
      (G : Given K) (x : Both K) → Type 0
  AtTurn m places back_of near far mine theirs found G x =
      Turning o.thing o.leq k.cost m places back_of (f.well near) (f.meaning near) (n.well far) (n.meaning far) mine theirs found G x

-- What a turn of a side did, by its answer.
abbrev pub Turned : {K F : Type 0} → OrderOf K → MeasureOf K → FringeOf F K → MapModel → (back_of : ℕ → ℕ) (near : F)
    (mine mine' theirs : List (Label K)) → Given K → (s t : ℕ) → Both K → Option (Findings K) → Type 0
Turned o k f m back_of near mine mine' theirs G s t x r =
    Taken o.thing o.leq (operations o k) m back_of (f.well near) (f.meaning near) mine mine' theirs G s t x r
