-- The least taken from the fringe and settled.
use Rattle.std.proofs.Common.{◌≡◌, ℕ, ◌<◌, ◌≤◌, Bool, List, length, set, Some, None, sym, refl, ap, ◌∙◌, subst, ⊎_elim, arith, length-set, get_or-set_other, get_or-set_same}
use lib.Seq.{set_out}
use Rattle.std.proofs.lemmas.List.{get_or_past}
use Rattle.std.proofs.lemmas.Bool.{cases_eq, cases_lt}
use Rattle.std.specs.Option.{option_map}
use Rattle.fringe.specs.declared.place.Place.{Place}
use Rattle.fringe.specs.Fringes.{Meaning, Empty, First, Gone}
use Rattle.routes.specs.declared.labels.Label.{Label}
use Rattle.routes.specs.declared.labels.Label.TheVariants.{Blank, Reached, Settled}
use Rattle.halves.specs.Labels.{spot, settled_at, paired}
use Rattle.routes.specs.Parts.{waiting, finished}
use Rattle.halves.specs.Agreement.{Agree}
use Rattle.halves.specs.Settling.{Idle, Settling}
use Rattle.halves.proofs.Alikes.{never, same_some, Like, like, like_none}

no_longer : {C : Type 0} (l : Label C) → waiting (finished l) ≡ None
no_longer Blank = refl
no_longer (Reached d o) = refl
no_longer (Settled d o) = refl

-- a place without a label
pub past_same : {C : Type 0} (labels : List (Label C)) (v : ℕ) → length labels ≤ v → labels ≡ settled_at v labels
past_same labels v h = sym (set_out labels v _ h)

pub past_none : {C : Type 0} (labels : List (Label C)) (p : Place) → length labels ≤ p.0 → None ≡ paired p (waiting (spot labels p.0))
past_none labels p h = sym (ap (λ l. paired p (waiting l)) (get_or_past labels p.0 Blank h))

module _ {C T : Type 0} (thing : C → T) (leq : T → T → Bool) {W : Type 0} {m : Meaning C} {labels : List (Label C)} (a : Agree thing leq W m labels) where
  -- nothing is held
  module _ (none : Empty m) where
    pub idle : Idle thing leq labels labels
    idle = record { none = λ v. like_none thing leq (waiting (spot labels v)) (sym (a.holds v) ∙ ap (option_map thing) (none v)); same = refl }

    pub idle_agrees : {W' : Type 0} {m' : Meaning C} → W' → m'.capacity ≡ m.capacity → Empty m' → Agree thing leq W' m' labels
    idle_agrees w s none' = record {
      in_order = w;
      fits = let f = a.fits in omega arith;
      holds = λ v. ap (option_map thing) (none' v) ∙ sym (ap (option_map thing) (none v)) ∙ a.holds v;
    }

  -- the first is taken
  module _ (p : Place) (c : C) (first : First thing leq m p.0 c) where
    waits : Like thing leq (waiting (spot labels p.0)) c
    waits = like thing leq _ c (sym (a.holds p.0) ∙ first.there)

    known : p.0 < length labels
    known = ⊎_elim (λ l. l) (λ l. absurd (never (ap waiting (get_or_past labels p.0 Blank l)) waits.is)) (cases_lt p.0 (length labels))

    held_like : (v : ℕ) (d : C) → waiting (spot labels v) ≡ Some d → Like thing leq (m.held v) d
    held_like v d e = like thing leq (m.held v) d (a.holds v ∙ ap (option_map thing) e)

    pub settles : Settling thing leq labels (settled_at p.0 labels) (paired p (waiting (spot labels p.0)))
    settles = by (spot labels p.0) refl
      where
        by : (l : Label C) → spot labels p.0 ≡ l → Settling thing leq labels (set labels p.0 (finished l)) (paired p (waiting l))
        by Blank e = absurd (never (ap waiting e) waits.is)
        by (Settled d o) e = absurd (never (ap waiting e) waits.is)
        by (Reached d o) e =
            let s : thing d ≡ thing c = ap thing (same_some (ap waiting e) waits.is) ∙ waits.stands in
            record {
              known = known;
              origin = o;
              was = e;
              is = refl;
              least = λ v x h. let k = held_like v x h in rw (s, ← k.stands) (first.least v k.cost k.is);
              lowest = λ v x l h. let k = held_like v x h in rw (s, ← k.stands) (first.lowest v k.cost k.is l);
            }

    pub settled_agrees : {W' : Type 0} {m' : Meaning C} → W' → m'.capacity ≡ m.capacity → Gone thing leq m m' p.0 → Agree thing leq W' m' (settled_at p.0 labels)
    settled_agrees {m'} w s gone = record {
      in_order = w;
      fits = let f = a.fits in let l = length-set labels p.0 (finished (spot labels p.0)) in omega arith;
      holds = λ q. ⊎_elim
          (λ (e : q ≡ p.0). subst (λ k. option_map thing (m'.held k) ≡ option_map thing (waiting (spot (settled_at p.0 labels) k))) (sym e)
          (ap (option_map thing) (gone.gone ∙ sym (ap waiting (get_or-set_same labels p.0 (finished (spot labels p.0)) Blank known) ∙ no_longer (spot labels p.0)))))
          (λ n. gone.elsewhere q n ∙ a.holds q ∙ sym (ap (λ l. option_map thing (waiting l)) (get_or-set_other labels p.0 q (finished (spot labels p.0)) Blank n)))
          (cases_eq q p.0);
    }
