-- The search as a definition that computes, over lists of labels. Two sides take turns, one from the start along the roads
-- and one from the goal against them. A turn is written for the side that takes it, which is always `fore`: the other
-- side's turn is the same definition with all roads turned round and the sides swapped.
--
-- In a turn the side settles its nearest reached place u. The table entry between the districts of u and of the goal, the
-- cost of u before it and the other side's gate cost after it are a lower bound of all walks through u. Where that exceeds
-- the upper bound, u is pruned; otherwise it is expanded: its roads are relaxed, and `best` falls to the least sum of the
-- two sides' costs at their far ends. `best` is the least cost of a walk that both sides know, and the upper bound is at most
-- that: a stored pair of places whose ends both sides settled can lower it further.
--
-- The gate cost of a side is the cost at which it first settled a border place of the district of its own start.
use Rattle.std.specs.Prelude.{ℕ, zero, suc, ◌+◌, Bool, true, false, not, ◌&&◌, ◌||◌, List, [], ◌∷◌, replicate, Some, None, Option, ◌==◌, slice_index_or, slice_set}
use Rattle.std.proofs.Math.Option.{Option as Maybe, some, none}
use Rattle.routes.specs.States.{Origin, Start, From, Label, Blank, Reached, Settled, Side, State}
use Rattle.routes.specs.Routes.{onto}

-- The operations of costs that a search computes with. Nothing is asked of them here.
pub record Ops (K : Type 0) : Type 0 where
  infixl 65 ◌⊕◌
  pub ◌⊕◌ : K → K → K
  pub free : K
  pub blocked : K
  pub leq : K → K → Bool

-- Those of a measure, compared by what costs stand for.
abbrev pub ops_of : {K T : Type 0} → (K → T) → (T → T → Bool) → (K → K → K) → K → K → Ops K
ops_of thing leq plus nil blocked = record { ◌⊕◌ = plus; free = nil; blocked = blocked; leq = λ a b. leq (thing a) (thing b) }

-- What is asked: how many places there are, the price of the open road from u to v if there is one, each place's district,
-- which are border places, and the table between districts. A pair is there only where it may be used.
pub record Given (K : Type 0) : Type 0 where
  pub size : ℕ
  pub price : ℕ → ℕ → Maybe K
  pub district : ℕ → ℕ
  pub border : ℕ → Bool
  pub entry : ℕ → ℕ → K
  pub pair : ℕ → ℕ → Maybe (ℕ × ℕ)

-- One side: its labels, which of the settled places it expanded, and its gate cost once that is known.
pub record Half (K : Type 0) : Type 0 where
  pub labels : List (Label K)
  pub expands : List Bool
  pub gate : Maybe K

-- Both sides, the least cost known and the place where it was met, and the upper bound.
pub record Both (K : Type 0) : Type 0 where
  pub fore : Half K
  pub back : Half K
  pub best : K
  pub upper : K
  pub meet : ℕ
  -- how many places were expanded and pruned, on either side
  pub expansions : ℕ
  pub prunings : ℕ

-- A place, with a cost and where that came from.
pub record Found (K : Type 0) : Type 0 where
  pub place : ℕ
  pub cost : K
  pub origin : Origin

-- A pair turned round.
abbrev pub turn_pair : Maybe (ℕ × ℕ) → Maybe (ℕ × ℕ)
turn_pair none = none
turn_pair (some p) = some (p.1, p.0)

module _ {K : Type 0} where
  -- All roads turned round.
  abbrev pub flip : Given K → Given K
  flip G = record
      { size = G.size; price = λ u v. G.price v u; district = G.district; border = G.border; entry = λ i j. G.entry j i; pair = λ i j. turn_pair (G.pair j i) }

  -- The sides swapped.
  abbrev pub other : Both K → Both K
  other x = record { fore = x.back; back = x.fore; best = x.best; upper = x.upper; meet = x.meet; expansions = x.expansions; prunings = x.prunings }

  -- The label of a place.
  abbrev pub label_at : List (Label K) → ℕ → Label K
  label_at l v = slice_index_or l v Blank

  -- A side and a state as functions of places.
  abbrev pub side : Half K → Side K
  side h = record { label = label_at h.labels; expanded = λ v. slice_index_or h.expands v false; gate = h.gate }

  abbrev pub view : Both K → State K
  view x = record { fore = side x.fore; back = side x.back; best = x.best; upper = x.upper; meet = x.meet }

  -- The cost of a label, if it has one.
  abbrev pub cost_of : Label K → Maybe K
  cost_of Blank = none
  cost_of (Reached c o) = some c
  cost_of (Settled c o) = some c

  -- The side did not settle the place of this label.
  abbrev pub unsettled : Label K → Bool
  unsettled Blank = true
  unsettled (Reached c o) = true
  unsettled (Settled c o) = false

  -- The gate cost stays if it is known; otherwise it is c, if the place settled at c is such a border place.
  abbrev pub gate_after : Maybe K → Bool → K → Maybe K
  gate_after (some g) b c = some g
  gate_after none true c = some c
  gate_after none false c = none

  -- u is a border place of the district of s.
  abbrev pub own : Given K → ℕ → ℕ → Bool
  own G s u = G.border u && G.district u == G.district s

  -- The place is settled, and not yet expanded.
  abbrev pub settle : Given K → ℕ → Half K → Found K → Half K
  settle G s h f = record {
    labels = slice_set h.labels f.place (Settled f.cost f.origin);
    expands = slice_set h.expands f.place false;
    gate = gate_after h.gate (own G s f.place) f.cost;
  }

module _ {K : Type 0} (O : Ops K) where
  open O use {◌⊕◌, free, blocked, leq}

  infixl 65 ◌⊕◌
  -- The lesser of two costs.
  abbrev pub least_of : K → K → K
  least_of a b = elim (leq a b) [ true ↦ a | false ↦ b ]

  -- The reached place of least cost, of equals the lowest. The first label of the list is that of the place i.
  abbrev pub nearer : Found K → Maybe (Found K) → Maybe (Found K)
  nearer a none = some a
  nearer a (some b) = elim (leq a.cost b.cost) [ true ↦ some a | false ↦ some b ]

  abbrev pub nearest : ℕ → List (Label K) → Maybe (Found K)
  nearest i [] = none
  nearest i (Blank ∷ l) = nearest (suc i) l
  nearest i (Reached c o ∷ l) = nearer (record { place = i; cost = c; origin = o }) (nearest (suc i) l)
  nearest i (Settled c o ∷ l) = nearest (suc i) l

  -- The upper bound falls to the cost of a way through a stored pair, if u is its first place, the other side settled its
  -- second, and the way costs less: c is the cost up to there.
  abbrev pub through : Label K → K → K → K
  through Blank c upper = upper
  through (Reached d o) c upper = upper
  through (Settled d o) c upper = least_of (c ⊕ d) upper

  abbrev pub lowered : Maybe (ℕ × ℕ) → ℕ → K → List (Label K) → K → K
  lowered none u c l upper = upper
  lowered (some p) u c l upper = elim (p.0 == u) [ true ↦ through (label_at l p.1) c upper | false ↦ upper ]

  -- u is pruned if both gate costs are known, the other side did not settle it, and the lower bound is blocked or above the
  -- upper bound: c is the cost of u and of the table entry, k the other side's gate cost.
  abbrev pub too_dear : Maybe K → Maybe K → Label K → K → K → Bool
  too_dear none k l c upper = false
  too_dear (some g) none l c upper = false
  too_dear (some g) (some k) l c upper = unsettled l && (leq blocked (c ⊕ k) || not (leq (c ⊕ k) upper))

  -- A road from u, settled at c, is relaxed: its far end, unless it is settled, is reached at the lesser cost. The label
  -- stays where the costs are equal.
  abbrev pub relaxed : Maybe K → ℕ → K → Label K → Label K
  relaxed none u c l = l
  relaxed (some p) u c Blank = Reached (c ⊕ p) (From u)
  relaxed (some p) u c (Reached d o) = elim (leq d (c ⊕ p)) [ true ↦ Reached d o | false ↦ Reached (c ⊕ p) (From u) ]
  relaxed (some p) u c (Settled d o) = Settled d o

  -- All roads out of u are relaxed. The first label of the list is that of the place i.
  abbrev pub relax : (ℕ → Maybe K) → ℕ → K → ℕ → List (Label K) → List (Label K)
  relax r u c i [] = []
  relax r u c i (l ∷ ls) = relaxed (r i) u c l ∷ relax r u c (suc i) ls

  -- The least sum of the two sides' costs at the far ends of roads, of equals that at the lowest place.
  abbrev pub summed : Maybe K → Maybe K → Maybe K → ℕ → Maybe (Found K) → Maybe (Found K)
  summed none a b i f = f
  summed (some p) none b i f = f
  summed (some p) (some a) none i f = f
  summed (some p) (some a) (some b) i f = nearer (record { place = i; cost = a ⊕ b; origin = Start }) f

  abbrev pub sums : (ℕ → Maybe K) → ℕ → List (Label K) → List (Label K) → Maybe (Found K)
  sums r i [] m = none
  sums r i (a ∷ l) [] = none
  sums r i (a ∷ l) (b ∷ m) = summed (r i) (cost_of a) (cost_of b) i (sums r (suc i) l m)

  -- The least sum becomes best if it is below best, and the upper bound falls with it. A place was expanded.
  abbrev pub taken : Maybe (Found K) → Half K → Both K → K → Both K
  taken none h x low = record { fore = h; back = x.back; best = x.best; upper = low; meet = x.meet; expansions = suc x.expansions; prunings = x.prunings }
  taken (some f) h x low = elim (leq x.best f.cost) [
    | true ↦ record { fore = h; back = x.back; best = x.best; upper = low; meet = x.meet; expansions = suc x.expansions; prunings = x.prunings }
    | false ↦ record { fore = h; back = x.back; best = f.cost; upper = least_of low f.cost; meet = f.place; expansions = suc x.expansions; prunings = x.prunings }
  ]

  -- The place is expanded.
  abbrev pub expanded : Given K → Half K → Found K → Half K
  expanded G h f = record
      { labels = relax (G.price f.place) f.place f.cost 0 h.labels; expands = slice_set h.expands f.place true; gate = h.gate }

  -- The upper bound once the place is settled.
  abbrev pub low_after : Given K → ℕ → Both K → Found K → K
  low_after G t x f =
      lowered (G.pair (G.district f.place) (G.district t)) f.place (f.cost ⊕ G.entry (G.district f.place) (G.district t)) x.back.labels x.upper

  -- A turn, on the nearest reached place.
  abbrev pub step : Given K → ℕ → ℕ → Both K → Found K → Both K
  step G s t x f =
      let h : Half K = settle G s x.fore f in
      let low : K = low_after G t x f in
      elim (too_dear h.gate x.back.gate (label_at x.back.labels f.place) (f.cost ⊕ G.entry (G.district f.place) (G.district t)) low) [
        | true ↦ record { fore = h; back = x.back; best = x.best; upper = low; meet = x.meet; expansions = x.expansions; prunings = suc x.prunings }
        | false ↦ let k : Half K = expanded G h f in taken (sums (G.price f.place) 0 k.labels x.back.labels) k x low
      ]

  -- The search goes on while both sides have a reached place and the nearest two have a sum below best.
  abbrev pub going : Maybe (Found K) → Maybe (Found K) → K → Maybe (Found K)
  going none b best = none
  going (some a) none best = none
  going (some a) (some b) best = elim (leq best (a.cost ⊕ b.cost)) [ true ↦ none | false ↦ some a ]

  -- The place that the side takes next, if the search goes on.
  abbrev pub next : Both K → Maybe (Found K)
  next x = going (nearest 0 x.fore.labels) (nearest 0 x.back.labels) x.best

  -- At most n turns, by either side in turn.
  abbrev pub run : ℕ → Given K → ℕ → ℕ → Both K → Both K
  run zero G s t x = x
  run (suc n) G s t x = elim (next x) [ none ↦ x | some f ↦ other (run n (flip G) t s (other (step G s t x f))) ]

  -- One side at the beginning: its start is reached at nothing.
  abbrev pub half : ℕ → ℕ → Half K
  half n s = record { labels = slice_set (replicate n Blank) s (Reached free Start); expands = replicate n false; gate = none }

  -- Both sides at the beginning.
  abbrev pub first : ℕ → ℕ → ℕ → Both K
  first n s t = let c : K = elim (s == t) [ true ↦ free | false ↦ blocked ] in
      record { fore = half n s; back = half n t; best = c; upper = c; meet = s; expansions = 0; prunings = 0 }

  -- The whole search. Each turn settles a place on one of two sides, so twice as many turns as places suffice.
  abbrev pub search_best : Given K → ℕ → ℕ → Both K
  search_best G s t = run (G.size + G.size) G s t (first G.size s t)

module _ {K : Type 0} where
  -- The places from v along the origins to the start of the side, at most n of them.
  abbrev pub trail : ℕ → List (Label K) → ℕ → List ℕ
  trail zero l v = []
  trail (suc n) l v = elim (label_at l v) [
    | Blank ↦ []
    | Reached c o ↦ elim o [ Start ↦ v ∷ [] | From u ↦ v ∷ trail n l u ]
    | Settled c o ↦ elim o [ Start ↦ v ∷ [] | From u ↦ v ∷ trail n l u ]
  ]

-- The place is one of the list.
abbrev pub member : ℕ → List ℕ → Bool
member a [] = false
member a (b ∷ l) = a == b || member a l

-- The list from the first place a on.
abbrev pub from_place : ℕ → List ℕ → List ℕ
from_place a [] = []
from_place a (b ∷ l) = elim (a == b) [ true ↦ b ∷ l | false ↦ from_place a l ]

-- The first list up to its first place that is also on the second, and from there on the second.
abbrev pub spliced : List ℕ → List ℕ → List ℕ
spliced [] m = []
spliced (a ∷ l) m = elim (member a m) [ true ↦ from_place a m | false ↦ a ∷ spliced l m ]

-- The route: the chains of origins of the meeting place, the forward one turned round, spliced.
abbrev pub route : {K : Type 0} → ℕ → Both K → List ℕ
route n x = spliced (onto (trail (suc n) x.fore.labels x.meet) []) (trail (suc n) x.back.labels x.meet)

-- What a search answers: the least cost and its route, or nothing, and how many places it expanded and pruned.
pub record Answer (K : Type 0) : Type 0 where
  pub found : Option (K × List ℕ)
  pub expanded : ℕ
  pub pruned : ℕ

module _ {K : Type 0} (O : Ops K) where
  open O use {blocked, leq}

  -- The answer that the last state of a search over n places holds: nothing if best is blocked.
  abbrev pub answer_of : ℕ → Both K → Answer K
  answer_of n x = record { found = elim (leq blocked x.best) [ true ↦ None | false ↦ Some (x.best, route n x) ]; expanded = x.expansions; pruned = x.prunings }

  -- The answer to the question from s to t.
  abbrev pub answer : Given K → ℕ → ℕ → Answer K
  answer G s t = answer_of G.size (search_best O G s t)
