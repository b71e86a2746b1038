-- Lists of places by their numbers.
use Rattle.std.proofs.Common.{◌≡◌, suc, List, [], ◌∷◌, ◌++◌, length, refl, ap}
use Rattle.fringe.specs.declared.place.Place.{Place}
use Rattle.tracing.specs.Listings.{numbers}

pub numbers_++ : (a b : List Place) → numbers (a ++ b) ≡ numbers a ++ numbers b
numbers_++ [] b = refl
numbers_++ (p ∷ a) b = ap (λ l. p.0 ∷ l) (numbers_++ a b)

pub numbers_length : (a : List Place) → length (numbers a) ≡ length a
numbers_length [] = refl
numbers_length (p ∷ a) = ap suc (numbers_length a)
