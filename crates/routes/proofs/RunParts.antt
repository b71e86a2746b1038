-- A run turn by turn, as a loop goes through it.
use Rattle.std.proofs.Common.{◌≡◌, ℕ, zero, suc, ◌+◌, ◌≤◌, Bool, true, false, sym, refl, ap, subst, arith}
use mathlib.Core.Option.{Option as Maybe, some, none}
use Rattle.routes.specs.Search.{Ops, Given, Half, Both, Found, flip, turn_pair, other}
use Rattle.routes.specs.Search

turned_twice : (o : Maybe (ℕ × ℕ)) → turn_pair (turn_pair o) ≡ o
turned_twice none = refl
turned_twice (some p) = refl

-- the other side of the other side
pub flip_flip : {K : Type 0} (G : Given K) → flip (flip G) ≡ G
flip_flip G = λ i. record { size = G.size; price = G.price; district = G.district; border = G.border; entry = G.entry; pair = λ a b. turned_twice (G.pair a b) i }

module _ {K : Type 0} (O : Ops K) where
  -- where the search does not go on, the run ends as it is
  pub run_stop : (n : ℕ) (G : Given K) (s t : ℕ) (x : Both K) → Search.next O x ≡ none → Search.run O n G s t x ≡ x
  run_stop zero G s t x e = refl
  run_stop (suc n) G s t x e = ap (λ o. elim o as (λ _. Both K) [ none ↦ x | some f ↦ other (Search.run O n (flip G) t s (other (Search.step O G s t x f))) ]) e

  -- where it goes on, it is the run of the other side from the next state
  pub run_step : (n : ℕ) (G : Given K) (s t : ℕ) (x : Both K) (f : Found K) → Search.next O x ≡ some f →
      Search.run O (suc n) G s t x ≡ other (Search.run O n (flip G) t s (other (Search.step O G s t x f)))
  run_step n G s t x f e = ap (λ o. elim o as (λ _. Both K) [ none ↦ x | some f ↦ other (Search.run O n (flip G) t s (other (Search.step O G s t x f))) ]) e

  abbrev pub turns : Both K → ℕ
  turns x = x.expansions + x.prunings

  taken_turns : (o : Maybe (Found K)) (h : Half K) (x : Both K) (low : K) → turns (Search.taken O o h x low) ≡ suc (turns x)
  taken_turns none h x low = omega arith
  taken_turns (some f) h x low = by (O.leq x.best f.cost)
    where
      by : (b : Bool) → turns (elim b [
        | true ↦ record { fore = h; back = x.back; best = x.best; upper = low; meet = x.meet; expansions = suc x.expansions; prunings = x.prunings }
        | false ↦ record { fore = h; back = x.back; best = f.cost; upper = Search.least_of O low f.cost; meet = f.place; expansions = suc x.expansions; prunings = x.prunings }
      ]) ≡ suc (turns x)
      by true = omega arith
      by false = omega arith

  -- each turn expands or prunes one place
  pub step_turns : (G : Given K) (s t : ℕ) (x : Both K) (f : Found K) → turns (Search.step O G s t x f) ≡ suc (turns x)
  step_turns G s t x f =
      by (Search.too_dear O (Search.settle G s x.fore f).gate x.back.gate (Search.label_at x.back.labels f.place) (O.◌⊕◌ f.cost (G.entry (G.district f.place) (G.district t))) (Search.low_after O G t x f))
    where
      by : (b : Bool) → turns (elim b [
        | true ↦ record { fore = Search.settle G s x.fore f; back = x.back; best = x.best; upper = Search.low_after O G t x f; meet = x.meet; expansions = x.expansions; prunings = suc x.prunings }
        | false ↦
            Search.taken O (Search.sums O (G.price f.place) 0 (Search.expanded O G (Search.settle G s x.fore f) f).labels x.back.labels) (Search.expanded O G (Search.settle G s x.fore f) f) x (Search.low_after O G t x f)
      ]) ≡ suc (turns x)
      by true = omega arith
      by false = taken_turns (Search.sums O (G.price f.place) 0 (Search.expanded O G (Search.settle G s x.fore f) f).labels x.back.labels) (Search.expanded O G (Search.settle G s x.fore f) f) x (Search.low_after O G t x f)

  -- so a run of n turns counts at most n more
  pub run_turns : (n : ℕ) (G : Given K) (s t : ℕ) (x : Both K) → turns (Search.run O n G s t x) ≤ n + turns x
  run_turns zero G s t x = omega arith
  run_turns (suc n) G s t x = by (λ f. run_turns n (flip G) t s (other (Search.step O G s t x f))) (Search.next O x) refl
    where
      by : ((f : Found K) → turns (Search.run O n (flip G) t s (other (Search.step O G s t x f))) ≤ n + turns (Search.step O G s t x f)) →
          (o : Maybe (Found K)) → Search.next O x ≡ o → turns (Search.run O (suc n) G s t x) ≤ suc n + turns x
      by more none e = subst (λ z. turns z ≤ suc n + turns x) (sym (run_stop (suc n) G s t x e)) (omega arith)
      by more (some f) e = subst (λ z. turns z ≤ suc n + turns x) (sym (run_step n G s t x f e)) (omega (arith, more f, step_turns G s t x f))
