-- A fringe that tracks the labels of a side answers its nearest place, and goes on tracking them.
use Rattle.std.proofs.Common.{◌≡◌, ℕ, ◌<◌, Bool, true, false, cond, List, length, set, replicate, Some, None, Option, Result, sym, refl, ap, ◌∙◌, subst, ⊎_elim, zero-add, arith}
use native.Mathlib.Decide.{ℕ_discrete}
use mathlib.Core.Option.{Option as Maybe, some, none}
use Rattle.std.specs.Option.{option_map}
use Rattle.std.proofs.lemmas.Bool.{cases_lt, both_ways}
use Rattle.std.proofs.lemmas.List.{get_or-set_same, get_or-set_other, get_or_past, get_or-replicate, length-replicate}
use Rattle.fringe.specs.Orders.{TotalOrder}
use Rattle.fringe.specs.Fringes.{Meaning, Empty, Alike, Put, First, Gone, lowered}
use Rattle.fringe.specs.declared.fringes.Refusal.{Refusal}
use Rattle.measure.specs.Costs.{CostLaws}
use Rattle.routes.specs.Costs.{Costs}
use Rattle.routes.specs.States.{Origin, From, Label, Blank, Reached, Settled, IsReached}
use Rattle.routes.specs.Scales.{Scale}
use Rattle.routes.specs.Search.{Ops, Found, label_at, unsettled}
use Rattle.routes.specs.Search
use Rattle.routes.specs.Tracking.{reached_cost, Tracks}
use Rattle.routes.proofs.Parts
use Rattle.routes.proofs.Linked

none_not_some : {A : Type 0} (a : A) → None ≡ Some a → ⊥
none_not_some a e = let z : ◌≡◌ {A = ℕ} 0 1 = cc e in omega (arith, z)

some_same : {A : Type 0} (a b : A) → Some a ≡ Some b → a ≡ b
some_same a b e = cc e

module _ {K T : Type 0} (thing : K → T) (leq : T → T → Bool) where
  -- what is held of a reached label
  pub held_reached : (o : Option K) (x : Label K) (d : K) → Alike thing leq o (reached_cost x) → IsReached x d → (c : K) × (o ≡ Some c) × (thing c ≡ thing d)
  held_reached o Blank d a h = absurd h
  held_reached o (Settled c q) d a h = absurd h
  held_reached None (Reached c q) d a h = absurd (none_not_some (thing c) a)
  held_reached (Some e) (Reached c q) d a h = (e, refl, some_same _ _ a ∙ ap thing h)

  -- a label whose cost is held is reached
  pub reached_held : (x : Label K) (c : K) → Alike thing leq (Some c) (reached_cost x) → (d : K) × (o : Origin) × (x ≡ Reached d o) × (thing c ≡ thing d)
  reached_held Blank c a = absurd (none_not_some (thing c) (sym a))
  reached_held (Settled d o) c a = absurd (none_not_some (thing c) (sym a))
  reached_held (Reached d o) c a = (d, o, refl, some_same _ _ a)

  -- what stays as it is
  pub tracks_same : (m : Meaning K) (l k : List (Label K)) → ((q : ℕ) → reached_cost (label_at k q) ≡ reached_cost (label_at l q)) → Tracks thing leq m l → Tracks thing leq m k
  tracks_same m l k h t q = t q ∙ sym (ap (option_map thing) (h q))

  pub tracks_blank : (m : Meaning K) (n : ℕ) → Empty m → Tracks thing leq m (replicate n Blank)
  tracks_blank m n e q = ap (option_map thing) (e q) ∙ ap (λ x. option_map thing (reached_cost x)) (sym blank)
    where
      blank : label_at (replicate {A = Label K} n Blank) q ≡ Blank
      blank = ⊎_elim (λ h. get_or-replicate n q Blank Blank h) (λ h. get_or_past (replicate n Blank) q Blank (omega (arith, h, length-replicate {A = Label K} n Blank))) (cases_lt q n)

  -- one label changes, and with it what is held there
  tracks_set : (m m' : Meaning K) (l : List (Label K)) (p : ℕ) (x : Label K) → p < length l → Alike thing leq (m'.held p) (reached_cost x) →
      ((q : ℕ) → (q ≡ p → ⊥) → Alike thing leq (m'.held q) (m.held q)) → Tracks thing leq m l → Tracks thing leq m' (set l p x)
  tracks_set m m' l p x h here elsewhere t q = by (ℕ_discrete q p)
    where
      by : Dec (q ≡ p) → Alike thing leq (m'.held q) (reached_cost (label_at (set l p x) q))
      by (yes e) = subst (λ z. Alike thing leq (m'.held z) (reached_cost (label_at (set l p x) z))) (sym e) (here ∙ ap (λ z. option_map thing (reached_cost z)) (sym (get_or-set_same l p x Blank h)))
      by (no n) = elsewhere q n ∙ t q ∙ ap (λ z. option_map thing (reached_cost z)) (sym (get_or-set_other l p q x Blank n))

  -- the place is taken out and settled
  pub tracks_settle : (m m' : Meaning K) (l : List (Label K)) (p : ℕ) (c : K) (o : Origin) → p < length l → Gone thing leq m m' p → Tracks thing leq m l → Tracks thing leq m' (set l p (Settled c o))
  tracks_settle m m' l p c o h g t = tracks_set m m' l p (Settled c o) h (ap (option_map thing) g.gone) g.elsewhere t

  -- a blank place is put in and reached
  pub tracks_reach : (m m' : Meaning K) (l : List (Label K)) (p : ℕ) (c : K) (o : Origin) (r : Result Unit Refusal) → p < length l → p < m.capacity → label_at l p ≡ Blank →
      Put thing leq m m' p c r → Tracks thing leq m l → Tracks thing leq m' (set l p (Reached c o))
  tracks_reach m m' l p c o r h k e g t = tracks_set m m' l p (Reached c o) h (g.here k ∙ by (m.held p) (t p ∙ ap (λ z. option_map thing (reached_cost z)) e)) g.elsewhere t
    where
      by : (x : Option K) → option_map thing x ≡ None → option_map thing (lowered thing leq x c) ≡ Some (thing c)
      by None a = refl
      by (Some d) a = absurd (none_not_some (thing d) (sym a))

module _ {K T : Type 0} (thing : K → T) (leq : T → T → Bool) (order : TotalOrder leq)
    (plus : K → K → K) (nil blocked : K) (price : ℕ → ℕ → K) (code : K → ℕ) (laws : CostLaws thing leq plus nil blocked price code) where
  abbrev C : Costs
  C = Linked.costs thing leq order plus nil blocked price code laws

  abbrev S : Scale C
  S = Linked.scale thing leq order plus nil blocked price code laws

  abbrev O : Ops K
  O = Linked.operations thing leq order plus nil blocked price code laws

  -- a put where a road is relaxed
  pub tracks_relax : (m m' : Meaning K) (l : List (Label K)) (v u : ℕ) (b w : K) (r : Result Unit Refusal) → v < length l → v < m.capacity → unsettled (label_at l v) ≡ true →
      Put thing leq m m' v (plus b w) r → Tracks thing leq m l → Tracks thing leq m' (set l v (Search.relaxed O (some w) u b (label_at l v)))
  tracks_relax m m' l v u b w r h k e g t =
      tracks_set thing leq m m' l v (Search.relaxed O (some w) u b (label_at l v)) h (g.here k ∙ by (label_at l v) e (m.held v) (t v)) g.elsewhere t
    where
      by : (x : Label K) → unsettled x ≡ true → (o : Option K) → option_map thing o ≡ option_map thing (reached_cost x) →
          option_map thing (lowered thing leq o (plus b w)) ≡ option_map thing (reached_cost (Search.relaxed O (some w) u b x))
      by Blank e None a = refl
      by Blank e (Some d) a = absurd (none_not_some (thing d) (sym a))
      by (Settled c q) e o a = absurd (both_ways false refl e)
      by (Reached c q) e None a = absurd (none_not_some (thing c) a)
      by (Reached c q) e (Some d) a =
          ap (λ z. option_map thing (cond (leq z (thing (plus b w))) (Some d) (Some (plus b w)))) same ∙ at (leq (thing c) (thing (plus b w)))
        where
          same : thing d ≡ thing c
          same = some_same _ _ a

          at : (y : Bool) → option_map thing (cond y (Some d) (Some (plus b w))) ≡ option_map thing (reached_cost (elim y as (λ _. Label K) [ true ↦ Reached c q | false ↦ Reached (plus b w) (From u) ]))
          at true = ap Some same
          at false = refl

  module _ (m : Meaning K) (l : List (Label K)) (t : Tracks thing leq m l) where
    -- an empty fringe: no place is reached
    pub tracked_none : Empty m → Search.nearest O 0 l ≡ none
    tracked_none e = by (Search.nearest O 0 l) refl (Parts.nearest_ok C S 0 l)
      where
        by : (o : Maybe (Found K)) → Search.nearest O 0 l ≡ o → Parts.NearestOk C S 0 l o → Search.nearest O 0 l ≡ none
        by none q h = q
        by (some f) q h =
            let k = held_reached thing leq (m.held h.at) (label_at l h.at) f.cost (t h.at) (subst (λ z. IsReached z f.cost) (sym h.label_is) refl) in
            absurd (none_not_some k.0 (sym (e h.at) ∙ k.1))

    -- the first of a fringe: its label, and that it is the nearest
    pub record Tracked (p : ℕ) (c : K) : Type 0 where
      pub cost : K
      pub origin : Origin
      pub label_is : label_at l p ≡ Reached cost origin
      pub stands : thing c ≡ thing cost
      pub in_range : p < length l
      pub near : Parts.Nearest C S 0 l (record { place = p; cost = cost; origin = origin })
      pub nearest_is : Search.nearest O 0 l ≡ some (record { place = p; cost = cost; origin = origin })

    pub tracked_first : (p : ℕ) (c : K) → First thing leq m p c → Tracked p c
    tracked_first p c f = record { cost = k.0; origin = k.1; label_is = k.2; stands = k.3; in_range = room; near = near; nearest_is = by (Search.nearest O 0 l) refl (Parts.nearest_ok C S 0 l) }
      where
        k : (d : K) × (o : Origin) × (label_at l p ≡ Reached d o) × (thing c ≡ thing d)
        k = reached_held thing leq (label_at l p) c (sym f.there ∙ t p)

        room : p < length l
        room = ⊎_elim (λ h. h) (λ h. let e : Blank ≡ Reached k.0 k.1 = sym (get_or_past l p Blank h) ∙ k.2 in let z : ◌≡◌ {A = ℕ} 0 1 = cc e in absurd (omega (arith, z))) (cases_lt p (length l))

        reached_p : IsReached (label_at l p) k.0
        reached_p = subst (λ z. IsReached z k.0) (sym k.2) refl

        near : Parts.Nearest C S 0 l (record { place = p; cost = k.0; origin = k.1 })
        near = record {
          at = p;
          place_is = sym (zero-add p);
          in_range = room;
          label_is = k.2;
          least = λ q d h.
              let e = held_reached thing leq (m.held q) (label_at l q) d (t q) h in
              subst (λ z. leq z (thing d) ≡ true) k.3 (subst (λ z. leq (thing c) z ≡ true) e.2 (f.least q e.0 e.1));
          lowest = λ q d h i.
              let e = held_reached thing leq (m.held q) (label_at l q) d (t q) h in
              ⊎_elim (λ j. absurd (both_ways (leq (thing e.0) (thing c)) (f.lowest q e.0 e.1 j)
              (subst (λ z. leq (thing e.0) z ≡ true) (sym k.3) (subst (λ z. leq z (thing k.0) ≡ true) (sym e.2) i)))) (λ j. j) (cases_lt q p);
        }

        by : (o : Maybe (Found K)) → Search.nearest O 0 l ≡ o → Parts.NearestOk C S 0 l o → Search.nearest O 0 l ≡ some (record { place = p; cost = k.0; origin = k.1 })
        by none q h = absurd (h p k.0 reached_p)
        by (some g) q h = q ∙ ap some (Parts.nearest_one C S 0 l g (record { place = p; cost = k.0; origin = k.1 }) h near)
