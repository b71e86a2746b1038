-- A row reached place by place.
use Rattle.std.proofs.Common.{◌≡◌, ℕ, ◌+◌, ◌<◌, ◌≤◌, Bool, true, false, List, length, set, replicate, sym, ap, ◌∙◌, subst, ⊎_elim, arith, length-set, get_or-set_other, get_or-set_same}
use lib.ListN.{length-replicate}
use Rattle.std.proofs.lemmas.List.{get_or_past, get_or-replicate}
use Rattle.std.proofs.lemmas.Bool.{cases_eq, cases_lt, cond-true, cond-false, le-ltb}
use Rattle.std.specs.Option.{option_map}
use Rattle.fringe.specs.Fringes.{Meaning, Emptied}
use Rattle.map.specs.Model.{MapModel, is_in}
use Rattle.routes.specs.declared.labels.Origin.TheVariants.{Start}
use Rattle.routes.specs.declared.labels.Label.{Label}
use Rattle.routes.specs.declared.labels.Label.TheVariants.{Blank, Reached}
use Rattle.halves.specs.Labels.{spot}
use Rattle.routes.specs.Parts.{waiting}
use Rattle.halves.specs.Agreement.{Agree, Steady}
use Rattle.preparing.specs.Beginnings.{first_label, Sown}
use Rattle.halves.specs.Beginnings.{ReachedAt}

-- a row of blank labels
pub blank_spot : {C : Type 0} (n v : ℕ) → spot (replicate {A = Label C} n Blank) v ≡ Blank
blank_spot {C} n v = ⊎_elim (λ h. get_or-replicate n v Blank Blank h) (λ h. get_or_past (replicate n Blank) v Blank (omega (arith, h, length-replicate {A = Label C} n Blank))) (cases_lt v n)

module _ {C T : Type 0} (thing : C → T) (leq : T → T → Bool) where
  -- an empty fringe agrees with blank labels
  pub blank_agrees : {W : Type 0} {m m' : Meaning C} (n : ℕ) → W → Emptied m m' → n ≤ m.capacity → Agree thing leq W m' (replicate n Blank)
  blank_agrees {m} {m'} n w e l = record {
    in_order = w;
    fits = let s = e.same_capacity in let k = length-replicate {A = Label C} n Blank in omega arith;
    holds = λ v. ap (option_map thing) (e.empty v) ∙ sym (ap (λ x. option_map thing (waiting x)) (blank_spot n v));
  }

-- what holds once the places below i were looked at
module _ {C T F : Type 0} (thing : C → T) (leq : T → T → Bool) (well : F → Type 0) (meaning : F → Meaning C) (m : MapModel) (d : ℕ) (nil : C) (n : ℕ) (f₀ : F) where
  pub record Sowing (labels : List (Label C)) (f : F) (i : ℕ) : Type 0 where
    pub sized : length labels ≡ n
    pub done : (v : ℕ) → v < i → v < n → spot labels v ≡ first_label m d nil v
    pub ahead : (v : ℕ) → i ≤ v → spot labels v ≡ Blank
    pub agree : n ≤ (meaning f₀).capacity → Agree thing leq (well f) (meaning f) labels
    pub steady : Steady (well f) (meaning f₀) (meaning f)

  pub sowing_same : {labels labels' : List (Label C)} {f f' : F} {i : ℕ} → labels' ≡ labels → f' ≡ f → Sowing labels f i → Sowing labels' f' i
  sowing_same {labels'} {f} {i} e e' h = subst (λ x. Sowing labels' x i) (sym e') (subst (λ x. Sowing x f i) (sym e) h)

  pub sowing_none : {labels : List (Label C)} {f : F} → labels ≡ replicate n Blank → Emptied (meaning f₀) (meaning f) → well f → Sowing labels f 0
  sowing_none {f} e x w = subst (λ l. Sowing l f 0) (sym e) (record {
    sized = length-replicate n Blank;
    done = λ v l _. absurd (omega (arith, l));
    ahead = λ v _. blank_spot n v;
    agree = λ l. blank_agrees thing leq n w x l;
    steady = record { in_order = w; same_capacity = x.same_capacity };
  })

  module _ {labels : List (Label C)} {f : F} {i : ℕ} (so_far : Sowing labels f i) where
    -- a place of another district
    pub sowing_past : is_in m d i ≡ false → Sowing labels f (i + 1)
    sowing_past no' = record {
      sized = so_far.sized;
      done = λ v l k. ⊎_elim (λ b. so_far.done v b k)
          (λ b. let e : i ≡ v = omega (arith, b, l) in so_far.ahead v b ∙ sym (cond-false (is_in m d v) (Reached nil Start) Blank (subst (λ z. is_in m d z ≡ false) e no'))) (cases_lt v i);
      ahead = λ v l. so_far.ahead v (omega (arith, l));
      agree = so_far.agree;
      steady = so_far.steady;
    }

    -- a place of the district
    pub sowing_on : {labels' : List (Label C)} {f' : F} (c : C) → c ≡ nil → is_in m d i ≡ true → ReachedAt thing leq well meaning labels f i c labels' f' → (well f → Steady (well f') (meaning f) (meaning f')) → Sowing labels' f' (i + 1)
    sowing_on {labels'} {f'} c free yes' r steady = record {
      sized = ap length r.labels ∙ length-set labels i (Reached c Start) ∙ so_far.sized;
      done = λ v l k. ap (λ z. spot z v) r.labels ∙ ⊎_elim
          (λ (e : v ≡ i). subst (λ z. spot (set labels i (Reached c Start)) z ≡ first_label m d nil z) (sym e)
          (get_or-set_same labels i (Reached c Start) Blank (let s = so_far.sized in omega (arith, e, k, s)) ∙ ap (λ z. Reached z Start) free ∙ sym (cond-true (is_in m d i) (Reached nil Start) Blank yes')))
          (λ x. get_or-set_other labels i v (Reached c Start) Blank x ∙ so_far.done v (omega (arith, l, x)) k)
          (cases_eq v i);
      ahead = λ v l. ap (λ z. spot z v) r.labels ∙ get_or-set_other labels i v (Reached c Start) Blank (λ e. omega (arith, e, l)) ∙ so_far.ahead v (omega (arith, l));
      agree = λ l. r.agree (so_far.ahead i (omega arith)) (so_far.agree l);
      steady = let s = so_far.steady in let t = steady s.in_order in record { in_order = t.in_order; same_capacity = t.same_capacity ∙ s.same_capacity };
    }

    pub sowing_all : m.places ≤ i → Sown m d nil n labels
    sowing_all l = record {
      sized = so_far.sized;
      each = λ v k. ⊎_elim (λ b. so_far.done v b k)
          (λ b. so_far.ahead v b ∙ sym (cond-false (is_in m d v) (Reached nil Start) Blank (rw (le-ltb v m.places (omega (arith, b, l)))))) (cases_lt v i);
    }
