-- What it is to be a total order in which different things never compare equal.
use Rattle.std.specs.Prelude.{◌≡◌, Bool, true, false}

-- `leq` compares any two things, and two that are at most each other are one.
pub record TotalOrder {A : Type 0} (leq : A → A → Bool) : Type 0 where
  pub refl_leq : (a : A) → leq a a ≡ true
  pub trans_leq : (a b c : A) → leq a b ≡ true → leq b c ≡ true → leq a c ≡ true
  pub antisym_leq : (a b : A) → leq a b ≡ true → leq b a ≡ true → a ≡ b
  pub total_leq : (a b : A) → leq a b ≡ false → leq b a ≡ true
