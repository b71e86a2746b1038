-- Which places are of a district.
use Rattle.std.proofs.Common.{◌≡◌, ℕ, true, false, eqb, ltb, sym, ◌∙◌, ⊎_elim}
use Rattle.std.proofs.lemmas.Bool.{both_ways, cases_Bool, cond-true, cond-false, ltb-true, eqb-true, lt-ltb, eq-eqb}
use Rattle.map.specs.Model.{MapModel, Inhabits, is_in}

module _ (m : MapModel) (d v : ℕ) where
  -- the test is true of a place of the district
  pub of_is : Inhabits m d v → is_in m d v ≡ true
  of_is h = cond-true (ltb v m.places) _ false (lt-ltb v m.places h.known) ∙ eq-eqb (m.district v) d h.there

  -- and of no other
  pub is_home : is_in m d v ≡ true → Inhabits m d v
  is_home t = ⊎_elim
      (λ l. record { known = ltb-true v m.places l; there = eqb-true (m.district v) d (sym (cond-true (ltb v m.places) (eqb (m.district v) d) false l) ∙ t) })
      (λ l. absurd (both_ways (is_in m d v) (cond-false (ltb v m.places) (eqb (m.district v) d) false l) t))
      (cases_Bool (ltb v m.places))

  pub not_home : is_in m d v ≡ false → Inhabits m d v → ⊥
  not_home f h = both_ways (is_in m d v) f (of_is h)
