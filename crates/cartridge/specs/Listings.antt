-- Entries that are sorted by their places, of which the j-th at a place is asked.
use Rattle.std.specs.Prelude.{◌≡◌, ℕ, ◌+◌, ◌<◌, ◌≤◌, ◌⊎◌, Option, MatchOption}

-- The places of the n entries do not fall.
abbrev pub Climbs : (ℕ → ℕ) → ℕ → Type 0
Climbs key n = (i j : ℕ) → i ≤ j → j < n → key i ≤ key j

-- The entries at the place p begin at `first`: those below are at lesser places, and the others are not.
pub record Begins (key : ℕ → ℕ) (n p first : ℕ) : Type 0 where
  pub within : first ≤ n
  pub below : (i : ℕ) → i < first → key i < p
  pub from : (i : ℕ) → first ≤ i → i < n → p ≤ key i

-- The j-th entry at the place p is the j-th from where they begin, absent where that is past the last or at another place.
abbrev pub NthOf : (ℕ → ℕ) → ℕ → ℕ → ℕ → Option ℕ → Type 0
NthOf key n p j r = (first : ℕ) × Begins key n p first × MatchOption r
    ((n ≤ first + j) ⊎ (key (first + j) ≡ p → ⊥))
    (λ i. (i ≡ first + j) × (i < n) × (key i ≡ p))
