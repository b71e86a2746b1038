-- What the tables of closed and of slowed roads hold, and what their calls answer and do.
use Rattle.std.specs.Prelude.{◌≡◌, ℕ, ◌+◌, ◌<◌, Bool, true, false, cond, List, length, is_some, Some, Ok, Err, Option, Result, ◌==◌, ◌≢◌, nat_lt, slice_index_or}
use Rattle.map.specs.declared.numbers.RoadId.{RoadId}
use Rattle.entries.specs.declared.refusals.Refusal.{Refusal}
use Rattle.entries.specs.declared.refusals.Refusal.TheVariants.{AlreadyClosed, TooSlow}
use Rattle.entries.specs.declared.slowdown.Figure.{Figure}
use Rattle.entries.specs.Answers.{put_answer}
use Rattle.entries.specs.Entries.{closed_road, entry_for, Lost}
use Rattle.entries.specs.Slowdowns.{slow_road, figure_in}

-- ---- closed roads
-- Whether the road r is on the table.
abbrev pub holds : List RoadId → ℕ → Bool
holds t r = is_some (entry_for closed_road t r)

-- What adding a road answers: whether it is on the table already comes first, then whether there is room.
abbrev pub add_answer : (already : Bool) (count : ℕ) → Result Unit Refusal
add_answer already count = put_answer (Err AlreadyClosed) already count

-- The road r, which was not on the table, is on it with one entry more, and every other road as before.
pub record Added (before after : List RoadId) (r : ℕ) : Type 0 where
  pub fresh : holds before r ≡ false
  pub reads : (q : ℕ) → holds after q ≡ cond (r == q) true (holds before q)
  pub count : length after ≡ length before + 1

-- The road r, which was on the table, is off it with one entry less, and every other road as before.
abbrev pub Removed : (before after : List RoadId) → ℕ → Type 0
Removed before after r = Lost closed_road before after r

-- ---- slowed roads
-- The figure of the road r, if it has one.
abbrev pub figure : List Figure → ℕ → Option ℕ
figure t r = figure_in t r

-- What setting the figure f of a road answers: whether it is too long comes first, then whether there is room for it, in
-- the road's own entry or in one of 64.
abbrev pub set_answer : (f : ℕ) (own : Option ℕ) (count : ℕ) → Result Unit Refusal
set_answer f own count = cond (nat_lt 60000 f) (Err TooSlow) (put_answer (Ok tt) (is_some own) count)

-- The road r has the figure f: in its own entry if it had one, and otherwise in one more. Every other road's figure is
-- as before, and its entry stands where it stood.
pub record Slowed (before after : List Figure) (r f : ℕ) : Type 0 where
  pub reads : (q : ℕ) → figure after q ≡ cond (r == q) (Some f) (figure before q)
  pub count : length after ≡ length before + cond (is_some (figure before r)) 0 1
  pub elsewhere : (i : ℕ) (d : Figure) → i < length before → slow_road (slice_index_or before i d) ≢ r →
      slice_index_or after i d ≡ slice_index_or before i d

-- The road r, which had a figure, has none, with one entry less, and every other road's figure is as before.
abbrev pub Cleared : (before after : List Figure) → ℕ → Type 0
Cleared before after r = Lost slow_road before after r
