-- Cases: what is asked or called after a history on a base map, and the answer that is expected.
use Rattle.std.specs.Prelude.{ℕ, zero, suc, Bool, true, false, ◌&&◌, List, [], ◌∷◌, Some, None, Ok, Err, Option, Result, ◌==◌}
use Rattle.std.proofs.Math.Option.{Option as Maybe, some, none}
use Rattle.map.specs.Model.{MapModel}
use Rattle.measure.specs.Times.{seconds_of}
use Rattle.measure.specs.Steeps.{per_mille_of}
use Rattle.layers.specs.declared.calls.ClosureCall.{ClosureCall}
use Rattle.routes.specs.Search.{Answer}
use Rattle.histories.specs.declared.calls.Call.{Call}
use Rattle.histories.specs.declared.calls.Call.TheVariants.{Prepare}
use Rattle.histories.specs.declared.refusals.Refusal.{Refusal}
use Rattle.histories.specs.Histories.{no_entries, closure_answer}
use Rattle.histories.specs.Refusals.{number_of}
use Rattle.samples.specs.Measures.{time_ops, time_price, time_answer, steep_ops, steep_price, steep_answer}
use Rattle.samples.specs.Preparing.{row_entry, row_pair}

-- What a question is expected to answer: the number of its cost and the route, or no way; and how many places were
-- expanded and pruned, where that is expected too.
pub record Expected : Type 0 where
  pub found : Option (ℕ × List ℕ)
  pub counts : Maybe (ℕ × ℕ)

-- What is asked, called or read, on a base map, and what is expected.
pub data Case : Type 0 where
  -- The question from s to t in time, after a history.
  InTime : (base : MapModel) (history : List Call) (s t : ℕ) → Expected → Case
  -- The question from s to t in steepness, after a history.
  InSteepness : (base : MapModel) (history : List Call) (s t : ℕ) → Expected → Case
  -- A close or an open after a history: the number of its refusal, if it is refused.
  Closes : (base : MapModel) (history : List Call) → ClosureCall → Maybe ℕ → Case
  -- The entry from one district to another in time: its number and its pair, or blocked and no pair.
  TimeEntry : (base : MapModel) (from to : ℕ) → Maybe (ℕ × (ℕ × ℕ)) → Case
  -- The entry from one district to another in steepness, likewise.
  SteepEntry : (base : MapModel) (from to : ℕ) → Maybe (ℕ × (ℕ × ℕ)) → Case

-- The calls that prepare the rows of the districts below n.
abbrev pub prepares : ℕ → List Call
prepares zero = []
prepares (suc n) = Prepare (record { 0 = n }) ∷ prepares n

-- ---- tests
-- Two lists of places are alike.
abbrev pub alike : List ℕ → List ℕ → Bool
alike [] [] = true
alike [] (b ∷ m) = false
alike (a ∷ l) [] = false
alike (a ∷ l) (b ∷ m) = a == b && alike l m

-- The route and its cost, or no way, as expected: `code` gives the number of a cost.
abbrev pub same_route : {K : Type 0} → (K → ℕ) → Option (ℕ × List ℕ) → Option (K × List ℕ) → Bool
same_route code None None = true
same_route code None (Some r) = false
same_route code (Some e) None = false
same_route code (Some e) (Some r) = e.0 == code r.0 && alike e.1 r.1

-- The counts as expected.
abbrev pub same_counts : Maybe (ℕ × ℕ) → ℕ → ℕ → Bool
same_counts none expanded pruned = true
same_counts (some e) expanded pruned = e.0 == expanded && e.1 == pruned

-- The answer as expected.
abbrev pub as_expected : {K : Type 0} → (K → ℕ) → Expected → Answer K → Bool
as_expected code e a = same_route code e.found a.found && same_counts e.counts a.expanded a.pruned

-- Accepted or refused as expected.
abbrev pub same_refusal : Maybe ℕ → Result Unit Refusal → Bool
same_refusal none (Ok u) = true
same_refusal none (Err r) = false
same_refusal (some n) (Ok u) = false
same_refusal (some n) (Err r) = n == number_of r

-- The entry, by its number, and its pair as expected: `blocked` is the number of blocked.
abbrev pub same_entry : (blocked : ℕ) → Maybe (ℕ × (ℕ × ℕ)) → ℕ → Maybe (ℕ × ℕ) → Bool
same_entry blocked none n none = n == blocked
same_entry blocked none n (some p) = false
same_entry blocked (some e) n none = false
same_entry blocked (some e) n (some p) = e.0 == n && (e.1.0 == p.0 && e.1.1 == p.1)

-- The case comes out as expected.
unfoldable pub comes_out : Case → Bool
comes_out (InTime base h s t e) = as_expected seconds_of e (time_answer base h (no_entries h) s t)
comes_out (InSteepness base h s t e) = as_expected per_mille_of e (steep_answer base h (no_entries h) s t)
comes_out (Closes base h call e) = same_refusal e (closure_answer base h call)
comes_out (TimeEntry base i j e) = same_entry 4294967295 e (seconds_of (row_entry time_ops time_price base i j)) (row_pair time_ops time_price base i j)
comes_out (SteepEntry base i j e) = same_entry 65535 e (per_mille_of (row_entry steep_ops steep_price base i j)) (row_pair steep_ops steep_price base i j)

-- All cases come out as expected.
unfoldable pub passes : List Case → Bool
passes [] = true
passes (c ∷ cs) = comes_out c && passes cs
