-- The cases come out as expected: one test that is computed. It takes the counts of entries from the lengths of the
-- histories, which are brief.
use Rattle.std.proofs.Common.{◌≡◌, ℕ, Bool, true, ◌&&◌, eqb, List, [], ◌∷◌, length, Result, sym, refl, subst, subst₂}
use Rattle.std.proofs.lemmas.Bool.{and_from, and_parts}
use Rattle.map.specs.Model.{MapModel}
use Rattle.measure.specs.Times.{seconds_of}
use Rattle.measure.specs.Steeps.{per_mille_of}
use Rattle.layers.specs.declared.calls.ClosureCall.{ClosureCall}
use Rattle.layers.specs.declared.calls.ClosureCall.TheVariants.{Close, Open}
use Rattle.layers.specs.Closures.{closed_by, closures_by, close_answer}
use Rattle.layers.specs.Slowdowns.{figures_by}
use Rattle.histories.specs.declared.calls.Call.{Call}
use Rattle.histories.specs.declared.refusals.Refusal.{Refusal}
use Rattle.histories.specs.Histories.{closure_calls, slowdown_calls, closure_answer, lifted}
use Rattle.samples.specs.Measures.{time_ops, time_price, time_answer, steep_ops, steep_price, steep_answer}
use Rattle.samples.specs.Preparing.{row_entry, row_pair}
use Rattle.samples.specs.Cases.{Case, InTime, InSteepness, Closes, TimeEntry, SteepEntry, as_expected, same_refusal, same_entry, comes_out, passes}
use Rattle.samples.specs.Listed.{cases}
use Rattle.samples.proofs.Layers.{brief_closures, brief_slowdowns, closures_counted, slowdowns_counted}

-- the history is brief on both layers
abbrev brief : List Call → Bool
brief h = brief_closures (closure_calls h) && brief_slowdowns (slowdown_calls h)

-- what a close or an open answers where that many roads are closed
abbrev answered : MapModel → List Call → ClosureCall → ℕ → Result Unit Refusal
answered base h (Close q) n = lifted (close_answer (base.road q.0) (closed_by (closure_calls h) q.0) n)
answered base h (Open q) n = closure_answer base h (Open q)

-- and so it answers
answered_is : (base : MapModel) (h : List Call) (call : ClosureCall) → answered base h call (closures_by (closure_calls h)) ≡ closure_answer base h call
answered_is base h (Close q) = refl
answered_is base h (Open q) = refl

-- the case comes out where the layers have that many entries
abbrev out_at : (closures slowdowns : ℕ) → Case → Bool
out_at m n (InTime base h s t e) = as_expected seconds_of e (time_answer base h (eqb m 0 && eqb n 0) s t)
out_at m n (InSteepness base h s t e) = as_expected per_mille_of e (steep_answer base h (eqb m 0 && eqb n 0) s t)
out_at m n (Closes base h call e) = same_refusal e (answered base h call m)
out_at m n (TimeEntry base i j e) = same_entry 4294967295 e (seconds_of (row_entry time_ops time_price base i j)) (row_pair time_ops time_price base i j)
out_at m n (SteepEntry base i j e) = same_entry 65535 e (per_mille_of (row_entry steep_ops steep_price base i j)) (row_pair steep_ops steep_price base i j)

-- the history of a case; an entry has none
abbrev history_of : Case → List Call
history_of (InTime base h s t e) = h
history_of (InSteepness base h s t e) = h
history_of (Closes base h call e) = h
history_of (TimeEntry base i j e) = []
history_of (SteepEntry base i j e) = []

-- and so it comes out
out_is : (c : Case) → out_at (closures_by (closure_calls (history_of c))) (figures_by (slowdown_calls (history_of c))) c ≡ true → comes_out c ≡ true
unfolding comes_out
out_is (InTime base h s t e) p = p
out_is (InSteepness base h s t e) p = p
out_is (Closes base h call e) p = subst (λ z. same_refusal e z ≡ true) (answered_is base h call) p
out_is (TimeEntry base i j e) p = p
out_is (SteepEntry base i j e) p = p

-- the computed test
abbrev test : Case → Bool
test c = brief (history_of c) && out_at (length (closure_calls (history_of c))) (length (slowdown_calls (history_of c))) c

-- the test of all cases
abbrev all_tested : List Case → Bool
all_tested [] = true
all_tested (c ∷ cs) = test c && all_tested cs

-- what passes the test comes out
tested_out : (c : Case) → test c ≡ true → comes_out c ≡ true
tested_out c p =
    let q = and_parts _ _ p in
    let b = and_parts _ _ q.0 in
    out_is c (subst₂ (λ m n. out_at m n c ≡ true) (sym (closures_counted _ b.0)) (sym (slowdowns_counted _ b.1)) q.1)

-- and so they pass
tested_pass : (cs : List Case) → all_tested cs ≡ true → passes cs ≡ true
unfolding passes
tested_pass [] p = refl
tested_pass (c ∷ cs) p = let q = and_parts _ _ p in and_from (comes_out c) (passes cs) (tested_out c q.0) (tested_pass cs q.1)

-- the cases pass
pub all_pass : passes cases ≡ true
unfolding cases
all_pass = tested_pass cases refl
