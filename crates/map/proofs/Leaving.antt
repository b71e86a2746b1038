-- The roads that leave a place are few.
use Rattle.std.proofs.Common.{◌≡◌, ℕ, zero, suc, ◌<◌, ◌≤◌, cond, eqb, ltb, length, get_or, Some, None, Option, inl, inr, ⊎_elim, arith, eq-eqb, ne_eqb}
use Rattle.std.proofs.lemmas.Bool.{cases_eq, cases_Bool, ltb-true}
use Rattle.std.proofs.lemmas.Bool.Decides.{nat_tests}
use Rattle.map.specs.declared.numbers.RoadId.{RoadId}
use Rattle.map.specs.Model.{MapModel, WellFormed, leaving, listed_at}

never : {A : Type 0} {x : Option A} {a : A} → x ≡ None → x ≡ Some a → ⊥
never n s = let z : ◌≡◌ {A = ℕ} 0 1 = cc in omega arith

-- numbers below n that are sent apart to numbers below m are at most m
pigeons : (n m : ℕ) (f : ℕ → ℕ) → ((k : ℕ) → k < n → f k < m) → ((j k : ℕ) → j < n → k < n → f j ≡ f k → j ≡ k) → n ≤ m
pigeons zero m f into apart = omega arith
pigeons (suc n) zero f into apart = absurd (let h = into 0 (omega arith) in omega arith)
pigeons (suc n) (suc m) f into apart =
    let last = into n (omega arith) in
    let h = pigeons n m (λ k. cond (eqb (f k) m) (f n) (f k))
    (λ k l.
    let a = into k (omega arith) in
    let b : f k ≡ f n → ⊥ = λ e. let s = apart k n (omega arith) (omega arith) e in omega arith in
    ⊎_elim (λ (e : f k ≡ m). rw (eq-eqb (f k) m e) (omega (arith, b))) (λ x. rw (ne_eqb (f k) m x) (omega (arith, x))) (cases_eq (f k) m))
    (λ j k jl kl e.
    let a = apart j k (omega arith) (omega arith) in
    let b : f j ≡ f n → ⊥ = λ e. let s = apart j n (omega arith) (omega arith) e in omega arith in
    let c : f k ≡ f n → ⊥ = λ e. let s = apart k n (omega arith) (omega arith) e in omega arith in
    grind (arith, nat_tests)) in
    omega arith

module _ (m : MapModel) (u : ℕ) where
  -- a road that is listed stands in the list
  pub listed_within : (j : ℕ) (r : RoadId) → listed_at m.places m.departures u j ≡ Some r → j < length (leaving m u)
  listed_within j r e =
      elim (cases_Bool (ltb u m.places)) [
        | inl t ↦ elim (cases_Bool (ltb j (length (m.departures u)))) [
          | inl k ↦ rw t (ltb-true j (length (m.departures u)) k)
          | inr k ↦ absurd (never (rw (t, k)) e)
        ]
        | inr t ↦ absurd (never (rw t) e)
      ]

  -- there are no more of them than road numbers
  pub few_leave : WellFormed m → length (leaving m u) ≤ 4096
  few_leave sound =
      elim (cases_Bool (ltb u m.places)) [
        | inl t ↦
            let lists = sound.departs u (ltb-true u m.places t) in
            let few = pigeons (length (m.departures u)) m.roads (λ k. get_or (m.departures u) k 0)
            (λ k l. let x = lists.only k l in (sound.road_fits _ x.is x.there).numbered) (λ j k a b e. lists.once j k a b e) in
            let all = sound.few_roads in
            rw t (omega arith)
        | inr t ↦ rw t (omega arith)
      ]
