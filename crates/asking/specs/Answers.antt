-- An answer of code and the list that was written, as the answer of the search.
use Rattle.std.specs.Prelude.{◌≡◌, ℕ, List, take, Some, None, Option}
use Rattle.fringe.specs.declared.place.Place.{Place}
use Rattle.routes.specs.Search.{Answer as SearchAnswer}
use Rattle.tracing.specs.Listings.{numbers, Listed}
use Rattle.asking.specs.declared.answers.Found.{Found}
use Rattle.asking.specs.declared.answers.Answer.{Answer}

module _ {K : Type 0} where
  -- The route that was given: its cost, and as many places of the list as it has.
  abbrev pub route_given : Option (Found K) → List Place → Option (K × List ℕ)
  route_given None list = None
  route_given (Some f) list = Some (f.cost, numbers (take f.places list))

  -- A route was found and stands first in the list, and the rest of the list is as before.
  pub record Told (w : K × List ℕ) (f : Found K) (before after : List Place) : Type 0 where
    pub cost : f.cost ≡ w.0
    pub listed : Listed w.1 before after f.places

  -- What was told is the route, and where there is none, nothing, and the list is as before.
  abbrev pub Tells : Option (K × List ℕ) → Option (Found K) → (before after : List Place) → Type 0
  Tells None None before after = after ≡ before
  Tells None (Some f) before after = ⊥
  Tells (Some w) None before after = ⊥
  Tells (Some w) (Some f) before after = Told w f before after

  -- The answer of the search, whole.
  pub record Answers (by_rules : SearchAnswer K) (before after : List Place) (r : Answer K) : Type 0 where
    pub tells : Tells by_rules.found r.found before after
    pub expanded : r.expanded ≡ by_rules.expanded
    pub pruned : r.pruned ≡ by_rules.pruned
