-- The history of a layer: the accepted calls since it was new, the latest first.
use Rattle.std.specs.Prelude.{◌≡◌, ℕ, zero, suc, ◌+◌, Bool, cond, List, [], ◌∷◌, Some, None, Ok, Err, fold, Option, Result, ◌==◌}
use Rattle.entries.specs.declared.refusals.Refusal.{Refusal}

-- The last of the calls that name the road r: `named` gives the road of a call.
abbrev pub last_on : {C : Type 0} → (C → ℕ) → List C → ℕ → Option C
last_on named [] r = None
last_on named (call ∷ h) r = cond (named call == r) (Some call) (last_on named h r)

-- The history after one call more that was answered so: an accepted call comes in front, a refused one leaves no trace.
abbrev pub further : {C : Type 0} → List C → C → Result Unit Refusal → List C
further h call (Ok u) = call ∷ h
further h call (Err e) = h

-- The history after further calls, each accepted or refused: `answer` says what a call answers after a history.
abbrev pub history_of : {C : Type 0} → (List C → C → Result Unit Refusal) → List C → List C → List C
history_of answer h calls = fold (λ past call. further past call (answer past call)) h calls

-- A call on a layer after the history h. The history alone decides what it answers, and the history after the call says
-- how it leaves the layer: `Left` says that of a history and a layer.
pub record ByHistory {C L : Type 0} (answer : List C → C → Result Unit Refusal) (Left : List C → L → Type 0) (h : List C) (call : C) (a : Result Unit Refusal) (after : L) : Type 0 where
  pub answered : a ≡ answer h call
  pub left : Left (further h call a) after

-- How many numbers below n pass the test.
unfoldable pub many : (ℕ → Bool) → ℕ → ℕ
many test zero = 0
many test (suc n) = many test n + cond (test n) 1 0
