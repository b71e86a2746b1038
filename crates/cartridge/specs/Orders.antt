-- Entries that rise by their keys.
use Rattle.std.specs.Prelude.{◌≡◌, ℕ, zero, suc, ◌<◌, Bool, true, false, cond, Some, None, Option, MatchOption}
use Rattle.map.specs.declared.roads.Road.{Road}
use Rattle.format.specs.Reading.{before}

-- By what roads rise, and by what arrivals do.
abbrev pub by_start : Road → ℕ × ℕ
by_start x = (x.start.0, x.end.0)

abbrev pub by_end : Road → ℕ × ℕ
by_end x = (x.end.0, x.start.0)

-- The key, if the entry is right by itself.
abbrev pub key_if : Bool → ℕ × ℕ → Option (ℕ × ℕ)
key_if right k = cond right (Some k) None

-- The key of the entry before the i-th, if there is one.
abbrev pub key_before : (ℕ → Option (ℕ × ℕ)) → ℕ → Option (ℕ × ℕ)
key_before key zero = None
key_before key (suc i) = key i

-- A key is above the one before it. An entry that is wrong by itself has none.
abbrev pub above : Option (ℕ × ℕ) → Option (ℕ × ℕ) → Bool
above last None = false
above None (Some k) = true
above (Some l) (Some k) = before l.0 l.1 k.0 k.1

-- The i-th key is above the one before it.
abbrev pub rises_at : (ℕ → Option (ℕ × ℕ)) → ℕ → Bool
rises_at key i = above (key_before key i) (key i)

-- The first of n entries at which the keys do not rise, absent if there is none.
abbrev pub FirstFall : (ℕ → Option (ℕ × ℕ)) → ℕ → Option ℕ → Type 0
FirstFall key n r = MatchOption r
    ((i : ℕ) → i < n → rises_at key i ≡ true)
    (λ k. (k < n) × (rises_at key k ≡ false) × ((i : ℕ) → i < k → rises_at key i ≡ true))
