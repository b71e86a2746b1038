-- The first settled places, as places are noted.
use Rattle.std.proofs.Common.{◌≡◌, ℕ, ◌<◌, ◌≤◌, ltb, List, length, get_or, set, Some, None, Option, sym, refl, ap, ◌∙◌, subst, inl, inr, ⊎_elim, arith, length-set, get_or-set_other, get_or-set_same}
use mathlib.Core.Option.{some, none}
use lib.Seq.{set_out}
use Rattle.std.proofs.lemmas.Bool.{cases_eq, cases_Bool, cond-true, cond-false, cond_both, lt-ltb}
use Rattle.fringe.specs.declared.place.Place.{Place}
use Rattle.map.specs.declared.numbers.District.{District}
use Rattle.map.specs.Model.{MapModel, district_at}
use Rattle.routes.specs.Spreads.{Firsts}
use Rattle.halves.proofs.Alikes.{never, same_some}
use Rattle.preparing.specs.Firsts.{number_in, first_at, sooner, noted}

module _ (m : MapModel) (p : Place) (firsts : List (Option Place)) where
  abbrev home : ℕ
  home = m.district p.0

  abbrev next : List (Option Place)
  next = set firsts home (sooner (get_or firsts home None) p)

  -- a district that has no room
  pub noted_past : (d : District) → Some d ≡ district_at m p.0 → length firsts ≤ d.0 → firsts ≡ noted m p firsts
  noted_past d e past = ⊎_elim
      (λ t. let s : d.0 ≡ home = ap (λ (x : District). x.0) (same_some (sym e) (cond-true (ltb p.0 m.places) (Some (record { 0 = home })) None t)) in
      sym (cond-true (ltb p.0 m.places) next firsts t ∙ set_out firsts home _ (omega (arith, s, past))))
      (λ f. absurd (never (cond-false (ltb p.0 m.places) (Some (record { 0 = home })) None f) (sym e)))
      (cases_Bool (ltb p.0 m.places))

  pub noted_length : length (noted m p firsts) ≡ length firsts
  noted_length = cond_both (ltb p.0 m.places) next firsts (λ x. length x ≡ length firsts) (λ _. length-set firsts home _) (λ _. refl)

  -- a place that is settled is the first of its district, if that had none
  module _ (known : p.0 < m.places) (room : home < length firsts) where
    noted_is : noted m p firsts ≡ next
    noted_is = cond-true (ltb p.0 m.places) next firsts (lt-ltb p.0 m.places known)

    at_home : first_at (noted m p firsts) home ≡ number_in (sooner (get_or firsts home None) p)
    at_home = ap (λ x. first_at x home) noted_is ∙ ap number_in (get_or-set_same firsts home (sooner (get_or firsts home None) p) None room)

    pub elsewhere : (j : ℕ) → (home ≡ j → ⊥) → first_at (noted m p firsts) j ≡ first_at firsts j
    elsewhere j n = ap (λ x. first_at x j) noted_is ∙ ap number_in (get_or-set_other firsts home j (sooner (get_or firsts home None) p) None (λ e. n (sym e)))

    sooner_known : (o : Option Place) (v : ℕ) → number_in o ≡ some v → number_in (sooner o p) ≡ some v
    sooner_known None v e = absurd (let z : ◌≡◌ {A = ℕ} 0 1 = cc in omega arith)
    sooner_known (Some q) v e = e

    sooner_fresh : (o : Option Place) → number_in o ≡ none → number_in (sooner o p) ≡ some p.0
    sooner_fresh None e = refl
    sooner_fresh (Some q) e = absurd (let z : ◌≡◌ {A = ℕ} 0 1 = cc in omega arith)

    pub noted_firsts : Firsts m.district (first_at firsts) (first_at (noted m p firsts)) p.0
    noted_firsts = record {
      known = λ j v e. ⊎_elim
          (λ (h : home ≡ j). subst (λ k. first_at firsts k ≡ some v → first_at (noted m p firsts) k ≡ some v) h (λ q. at_home ∙ sooner_known (get_or firsts home None) v q) e)
          (λ n. elsewhere j n ∙ e) (cases_eq home j);
      fresh = λ j e. ⊎_elim
          (λ (h : home ≡ j). inl (h, subst (λ k. first_at firsts k ≡ none → first_at (noted m p firsts) k ≡ some p.0) h (λ q. at_home ∙ sooner_fresh (get_or firsts home None) q) e))
          (λ n. inr (n, elsewhere j n ∙ e)) (cases_eq home j);
    }
