-- One turn of a side is one step of the search.
use Rattle.std.proofs.Common.{◌≡◌, ℕ, ◌<◌, Bool, true, false, List, length, set, sym, refl, ap, ◌∙◌, ap₂, arith, length-set}
use mathlib.Core.Option.{Option as Maybe, some, none}
use borrow.Author.Tests.{both_ways}
use Rattle.fringe.specs.Orders.{TotalOrder}
use Rattle.fringe.specs.Fringes.{Meaning}
use Rattle.map.specs.Model.{MapModel}
use Rattle.measure.specs.Costs.{CostLaws}
use Rattle.routes.specs.declared.labels.Label.{Label}
use Rattle.routes.specs.States.{Origin}
use Rattle.routes.specs.States as states
use Rattle.routes.specs.Labels.{start_at, origin_view, labels_view}
use Rattle.routes.specs.Search.{Ops, ops_of, Given, Both, Found, going, nearest, next}
use Rattle.halves.specs.Settling.{Settles, Idle}
use Rattle.halves.proofs.NearestIs as nearest_lemmas
use Rattle.turns.specs.declared.findings.Findings.{Findings}
use Rattle.turns.specs.declared.findings.Between.{Between}
use Rattle.turns.specs.Advances.{SettledAt}
use Rattle.search.specs.declared.guides.Guide.{Guide}
use Rattle.search.specs.Guides.{Guides, Reads, is_gate, entry_ahead}
use Rattle.search.specs.Turns.{is_over, Turning, Over}

module _ {K : Type 0} (O : Ops K) where
  decide : (b : Bool) {A : Type 0} (x y : A) → true ≡ b → elim b as (λ _. A) [ true ↦ x | false ↦ y ] ≡ x
  decide true x y e = refl
  decide false x y e = absurd (both_ways false refl (sym e))

  decide_not : (b : Bool) {A : Type 0} (x y : A) → false ≡ b → elim b as (λ _. A) [ true ↦ x | false ↦ y ] ≡ y
  decide_not false x y e = refl
  decide_not true x y e = absurd (both_ways true (sym e) refl)

  going_over : (p q : Maybe (Found K)) (best : K) → true ≡ is_over O p q best → going O p q best ≡ none
  going_over none q best e = refl
  going_over (some a) none best e = refl
  going_over (some a) (some b) best e = decide (O.leq best (O.◌⊕◌ a.cost b.cost)) none (some a) e

  going_on : (p q : Maybe (Found K)) (best : K) → false ≡ is_over O p q best → going O p q best ≡ p
  going_on none q best e = absurd (both_ways true (sym e) refl)
  going_on (some a) none best e = absurd (both_ways true (sym e) refl)
  going_on (some a) (some b) best e = decide_not (O.leq best (O.◌⊕◌ a.cost b.cost)) none (some a) e

  over_none : (q : Maybe (Found K)) (best : K) → false ≡ is_over O none q best → ⊥
  over_none q best e = both_ways true (sym e) refl

module _ {K T : Type 0} (thing : K → T) (leq : T → T → Bool) (order : TotalOrder leq)
    (plus : K → K → K) (nil blocked : K) (price : ℕ → ℕ → K) (code : K → ℕ) (laws : CostLaws thing leq plus nil blocked price code)
    (m : MapModel) (places : ℕ) (back_of : ℕ → ℕ) (V : Type 0) (near : Meaning K) (W : Type 0) (far : Meaning K)
    (mine theirs : List (Label K)) (found : Findings K) (G : Given K) (x : Both K)
    (a : Turning thing leq price m places back_of V near W far mine theirs found G x) where
  abbrev O : Ops K
  O = ops_of thing leq plus nil blocked

  abbrev mine_near : Maybe (Found K)
  mine_near = nearest O 0 (labels_view (start_at m) mine)

  abbrev theirs_near : Maybe (Found K)
  theirs_near = nearest O 0 (labels_view back_of theirs)

  next_views : next O x ≡ going O mine_near theirs_near found.best
  next_views =
      ap₂ (λ l k. going O (nearest O 0 l) (nearest O 0 k) x.best) a.shown.labels a.shown.beside.others
      ∙ ap (going O mine_near theirs_near) a.shown.beside.best

  pub turn_over : true ≡ is_over O mine_near theirs_near found.best → Over O mine mine x
  turn_over e = record { no_next = next_views ∙ going_over O mine_near theirs_near found.best e; same = refl }

  -- a side that goes on has a place reached
  pub turn_idle : (mine' : List (Label K)) → false ≡ is_over O mine_near theirs_near found.best → Idle thing leq mine mine' → ⊥
  turn_idle mine' e i = over_none O theirs_near found.best
      (e ∙ ap (λ z. is_over O z theirs_near found.best) (nearest_lemmas.idle_is thing leq order plus nil blocked price code laws (start_at m) mine mine' i))

  -- the place u was settled at c
  module _ (mine₁ : List (Label K)) (u : ℕ) (c : K) (settles : Settles thing leq mine mine₁ u c) where
    abbrev pub from : Origin
    from = origin_view (start_at m) settles.origin

    abbrev pub taken : Found K
    taken = record { place = u; cost = c; origin = from }

    pub turn_next : false ≡ is_over O mine_near theirs_near found.best → next O x ≡ some taken
    turn_next e = next_views ∙ going_on O mine_near theirs_near found.best e ∙ nearest_lemmas.nearest_is thing leq order plus nil blocked price code laws (start_at m) mine mine₁ u c settles

    known : u < m.places
    known = let l = settles.known in let s = a.sized in omega (arith, l, s)

    module _ (base : MapModel) (level : places ≡ base.places) (decoded : ℕ → K) {B : Type 0} (guide : Guide B) (s t : ℕ)
        (guides : Guides nil decoded base guide G s t) (gate : Bool) (between : Between K) where
      there : u < base.places
      there = let l = a.level in omega (arith, known, level, l)

      pub turn_settled : (u < base.places → gate ≡ is_gate base guide.home.0 u) →
          (u < base.places → Reads nil decoded guide.way guide.pairs (entry_ahead guide.way guide.table.now (base.district u) guide.away.0) between) →
          SettledAt price m back_of mine₁ theirs found u c gate between G s t x from
      turn_settled gate_read reads = record {
        fits = a.fits;
        sized = ap length settles.is ∙ length-set mine u _ ∙ a.sized;
        known = known;
        labels = nearest_lemmas.settled_is thing leq order plus nil blocked price code laws (start_at m) mine mine₁ u c settles
            ∙ ap (λ l. set l u (states.Settled c from)) (sym a.shown.labels);
        beside = a.shown.beside;
        few = a.few;
        gate_is = gate_read there ∙ guides.gates u there;
        entry_is = (reads there).cost_is ∙ guides.costs u there;
        pair_is = (reads there).pair_is ∙ guides.ends u there;
      }
