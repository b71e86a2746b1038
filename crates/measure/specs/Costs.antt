-- What costs have to keep. They are stored values and are compared by what they stand for: `thing` and `leq` are those
-- of their order.
use Rattle.std.specs.Prelude.{◌≡◌, ℕ, ◌≤◌, Bool, true, List, [], ◌∷◌, length, ◌≢◌}

-- The figures of a road that decide its cost: its seconds, and its steepness in per mille.
pub record Figures : Type 0 where
  pub seconds : ℕ
  pub steepness : ℕ
  pub short : seconds ≤ 60000
  pub mild : steepness ≤ 1000

-- The sum of what roads of these figures cost.
abbrev pub total : {S : Type 0} → (S → S → S) → S → (ℕ → ℕ → S) → List Figures → S
total plus zero price [] = zero
total plus zero price (r ∷ roads) = plus (price r.seconds r.steepness) (total plus zero price roads)

module _ {S T : Type 0} (thing : S → T) (leq : T → T → Bool) where
  -- The cost a is at most the cost b.
  abbrev pub AtMost : S → S → Type 0
  AtMost a b = leq (thing a) (thing b) ≡ true

  -- The laws of a measure.
  pub record CostLaws (plus : S → S → S) (zero blocked : S) (price : ℕ → ℕ → S) (number : S → ℕ) : Type 0 where
    -- Three costs have one sum, whichever two are summed first.
    pub associative : (a b c : S) → thing (plus (plus a b) c) ≡ thing (plus a (plus b c))
    -- Two costs have one sum, whichever comes first.
    pub commutative : (a b : S) → thing (plus a b) ≡ thing (plus b a)
    -- Zero adds nothing.
    pub neutral : (a : S) → thing (plus zero a) ≡ thing a
    -- A sum is never less than its first part.
    pub first_part : (a b : S) → AtMost a (plus a b)
    -- A sum is never less than its second part.
    pub second_part : (a b : S) → AtMost b (plus a b)
    -- Where a is at most b, so is a sum with a at most the sum with b.
    pub monotone : (a b c : S) → AtMost a b → AtMost (plus a c) (plus b c)
    -- No cost is above blocked.
    pub greatest : (a : S) → AtMost a blocked
    -- A sum with blocked is blocked.
    pub absorbing : (a : S) → thing (plus a blocked) ≡ thing blocked
    -- At most 4,096 roads are never blocked.
    pub passable : (roads : List Figures) → length roads ≤ 4096 → thing (total plus zero price roads) ≢ thing blocked
    -- A road with more seconds, all else equal, never costs less.
    pub slower : (quick slow steepness : ℕ) → quick ≤ slow → slow ≤ 60000 → steepness ≤ 1000 →
        AtMost (price quick steepness) (price slow steepness)
    -- Costs with one number stand for one thing, so a cost comes back from its number.
    pub numbered : (a b : S) → number a ≡ number b → thing a ≡ thing b
