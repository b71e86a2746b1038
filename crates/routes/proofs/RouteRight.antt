-- The route that the search gives: a walk whose cost stands for best, and that meets no place twice.
use Rattle.std.proofs.Common.{◌≡◌, ℕ, zero, suc, ◌<◌, Bool, true, false, eqb, List, [], ◌∷◌, ◌++◌, sym, refl, ap, ◌∙◌, subst, inl, inr, ⊎_elim, arith, eq-eqb, eqb-true}
use mathlib.Core.Option.{some}
use Rattle.std.proofs.lemmas.Bool.{or_cases, or_left, or_right}
use Rattle.routes.specs.Costs.{Costs}
use Rattle.routes.specs.Walks.{Roads, At}
use Rattle.routes.specs.Worlds.{Lawful, Own}
use Rattle.routes.specs.States.{Origin, Start, From, Label, Blank, Reached, Settled, Side, Has}
use Rattle.routes.specs.Promise.{Among, NoneTwice}
use Rattle.routes.specs.Routes.{Holds, onto, Trail, first, then, Course, Rooted, Simple}
use Rattle.routes.specs.Kept.{Keeping}
use Rattle.routes.specs.Scales.{Scale, ops}
use Rattle.routes.specs.Search.{Given, Half, Both, label_at, side, view, trail, member, from_place, spliced, route}
use Rattle.routes.specs.Search
use Rattle.routes.specs.Asked.{world, Paired}
use Rattle.routes.proofs.Expand.{start_from, from_one}
use Rattle.routes.proofs.Chains.{once, holds_has}
use Rattle.routes.proofs.Tally
use Rattle.routes.proofs.Whole
use Rattle.routes.proofs.RunRight

-- membership as a test
in_member : (a : ℕ) (l : List ℕ) → Among a l → member a l ≡ true
in_member a [] h = absurd h
in_member a (b ∷ l) (inl e) = or_left (eqb a b) (member a l) (eq-eqb a b e)
in_member a (b ∷ l) (inr h) = or_right (eqb a b) (member a l) (in_member a l h)

member_in : (a : ℕ) (l : List ℕ) → member a l ≡ true → Among a l
member_in a [] e = absurd (mathlib.Core.Bool.false≢true e)
member_in a (b ∷ l) e = ⊎_elim (λ h. inl (eqb-true a b h)) (λ h. inr (member_in a l h)) (or_cases (eqb a b) (member a l) e)

-- the front that is not in m stays
onto_spliced : (l k m : List ℕ) → ((y : ℕ) → Among y l → Among y m → ⊥) → spliced (onto l k) m ≡ onto l (spliced k m)
onto_spliced [] k m h = refl
onto_spliced (a ∷ l) k m h = onto_spliced l (a ∷ k) m (λ y i. h y (inr i)) ∙ ap (onto l) (by (member a m) refl)
  where
    by : (b : Bool) → member a m ≡ b → elim b [ true ↦ from_place a m | false ↦ a ∷ spliced k m ] ≡ a ∷ spliced k m
    by true e = absurd (h a (inl refl) (member_in a m e))
    by false e = refl

onto_++ : (l k m : List ℕ) → onto (l ++ k) m ≡ onto k (onto l m)
onto_++ [] k m = refl
onto_++ (a ∷ l) k m = onto_++ l k (a ∷ m)

in_++ : (a : ℕ) (l k : List ℕ) → Among a (l ++ (a ∷ k))
in_++ a [] k = inl refl
in_++ a (b ∷ l) k = inr (in_++ a l k)

-- from the one place where it stands
from_place_at : (a : ℕ) (l k : List ℕ) → NoneTwice (l ++ (a ∷ k)) → from_place a (l ++ (a ∷ k)) ≡ a ∷ k
from_place_at a [] k h = by (eqb a a) (eq-eqb a a refl)
  where
    by : (b : Bool) → b ≡ true → elim b [ true ↦ a ∷ k | false ↦ from_place a k ] ≡ a ∷ k
    by true e = refl
    by false e = absurd (mathlib.Core.Bool.false≢true e)
from_place_at a (b ∷ l) k h = by (eqb a b) refl (from_place_at a l k h.1)
  where
    by : (c : Bool) → eqb a b ≡ c → from_place a (l ++ (a ∷ k)) ≡ a ∷ k → elim c [ true ↦ b ∷ (l ++ (a ∷ k)) | false ↦ from_place a (l ++ (a ∷ k)) ] ≡ a ∷ k
    by true e _ = absurd (h.0 (subst (λ z. Among z (l ++ (a ∷ k))) (eqb-true a b e) (in_++ a l k)))
    by false e r = r

splice : (front ahead other_front rest : List ℕ) (cut : ℕ) → NoneTwice (other_front ++ (cut ∷ rest)) → ((y : ℕ) → Among y ahead → Among y (other_front ++ (cut ∷ rest)) → ⊥) →
    spliced (onto (front ++ (cut ∷ ahead)) []) (other_front ++ (cut ∷ rest)) ≡ onto ahead (cut ∷ rest)
splice front ahead other_front rest cut n h =
    ap (λ z. spliced z (other_front ++ (cut ∷ rest))) (onto_++ front (cut ∷ ahead) [])
    ∙ onto_spliced ahead (cut ∷ onto front []) (other_front ++ (cut ∷ rest)) h
    ∙ ap (onto ahead) (by (member cut (other_front ++ (cut ∷ rest))) (in_member cut _ (in_++ cut other_front rest)))
  where
    by : (b : Bool) → b ≡ true → elim b [ true ↦ from_place cut (other_front ++ (cut ∷ rest)) | false ↦ cut ∷ spliced (onto front []) (other_front ++ (cut ∷ rest)) ] ≡ cut ∷ rest
    by true e = from_place_at cut other_front rest n
    by false e = absurd (mathlib.Core.Bool.false≢true e)

module _ {K : Type 0} (σ : Side K) where
  origin_one : (l : Label K) (c d : K) (o q : Origin) → Holds l c o → Holds l d q → o ≡ q
  origin_one Blank c d o q h k = absurd h
  origin_one (Reached e p) c d o q h k = sym h.1 ∙ k.1
  origin_one (Settled e p) c d o q h k = sym h.1 ∙ k.1

  trail_has : {v : ℕ} {l : List ℕ} → Trail σ v l → (c : K) × Has (σ.label v) c
  trail_has (first {v} c h) = (c, holds_has (σ.label v) c Start h)
  trail_has (then {v} {u} c h w) = (c, holds_has (σ.label v) c (From u) h)

  -- a place has one chain
  trail_one : {v : ℕ} {l m : List ℕ} → Trail σ v l → Trail σ v m → l ≡ m
  trail_one (first {v} c h) (first d k) = refl
  trail_one (first {v} c h) (then {u = u} d k w) = absurd (start_from u (sym (origin_one (σ.label v) c d Start (From u) h k)))
  trail_one (then {v} {u} c h w) (first d k) = absurd (start_from u (origin_one (σ.label v) c d (From u) Start h k))
  trail_one (then {v} {u} {l} c h w) (then {u = z} {l = m} d k w') =
      ap (λ y. v ∷ y) (trail_one w (subst (λ y. Trail σ y m) (sym (from_one u z (origin_one (σ.label v) c d (From u) (From z) h k))) w'))

module _ (C : Costs) where
  open C use {Cost, ◌≼◌, blocked}

  infix 40 ◌≼◌
  -- the chain that is computed
  trail_is : (E : Roads C) (starts : ℕ → Type 0) (h : Half Cost) (rank : ℕ → ℕ) → Rooted C E starts (side h) rank → (n v : ℕ) (c : Cost) → rank v < n → Has (label_at h.labels v) c →
      Trail (side h) v (trail n h.labels v)
  trail_is E starts h rank g zero v c l k = absurd (omega arith)
  trail_is E starts h rank g (suc n) v c l k = by (trail_is E starts h rank g n) (label_at h.labels v) refl
    where
      more : ((u : ℕ) (d : Cost) → rank u < n → Has (label_at h.labels u) d → Trail (side h) u (trail n h.labels u)) →
          (o : Origin) (d : Cost) → Holds (label_at h.labels v) d o → Trail (side h) v (elim o [ Start ↦ v ∷ [] | From u ↦ v ∷ trail n h.labels u ])
      more r Start d q = first d q
      more r (From u) d q = let f = g.from v u d q in then d q (r u f.0 (omega (arith, f.5, l)) f.2)

      by : ((u : ℕ) (d : Cost) → rank u < n → Has (label_at h.labels u) d → Trail (side h) u (trail n h.labels u)) →
          (x : Label Cost) → label_at h.labels v ≡ x → Trail (side h) v (elim x [
            | Blank ↦ []
            | Reached c o ↦ elim o [ Start ↦ v ∷ [] | From u ↦ v ∷ trail n h.labels u ]
            | Settled c o ↦ elim o [ Start ↦ v ∷ [] | From u ↦ v ∷ trail n h.labels u ]
          ])
      by r Blank e = absurd (subst (λ z. Has z c) e k)
      by r (Reached d o) e = more r o d (subst (λ z. Holds z d o) (sym e) (refl, refl))
      by r (Settled d o) e = more r o d (subst (λ z. Holds z d o) (sym e) (refl, refl))

  module _ (S : Scale C) (G : Given Cost) (B : Roads C) (L : Lawful C (world C G B)) (p : Paired C G) (s t : ℕ) (ls : s < G.size) (lt : t < G.size) where
    abbrev answer : Both Cost
    answer = Search.search_best (ops C S) G s t

    kept : Keeping C (λ u v q. G.price u v ≡ some q) (Own C (world C G B) s) (Own C (world C G B) t) G.size s t (view answer)
    kept = Whole.kept C (world C G B) L s t ls lt (RunRight.ran C S G B L p s t ls lt).comes

    -- the route is a walk whose cost stands for best, and meets no place twice
    pub given_route : (blocked ≼ answer.best → ⊥) → Course C (λ u v q. G.price u v ≡ some q) s t (route G.size answer) answer.best × NoneTwice (route G.size answer)
    given_route n = (subst (λ z. Course C (λ u v q. G.price u v ≡ some q) s t z answer.best) (sym same) m.route, subst NoneTwice (sym same) m.no_twice)
      where
        m : Simple C (λ u v q. G.price u v ≡ some q) s t (view answer)
        m = RunRight.right_route C S G B L p s t ls lt n

        root_f : Rooted C (λ u v q. G.price u v ≡ some q) (At s) (side answer.fore) kept.rank_f
        root_f = Whole.rooted C (λ u v q. G.price u v ≡ some q) G.size (At s) (side answer.fore) kept.rank_f kept.fore

        root_b : Rooted C (λ u v q. G.price v u ≡ some q) (At t) (side answer.back) kept.rank_b
        root_b = Whole.rooted C (λ u v q. G.price v u ≡ some q) G.size (At t) (side answer.back) kept.rank_b kept.back

        has_f : (c : Cost) × Has (label_at answer.fore.labels answer.meet) c
        has_f = trail_has (side answer.fore) m.forward

        has_b : (c : Cost) × Has (label_at answer.back.labels answer.meet) c
        has_b = trail_has (side answer.back) m.backward

        chain_f : trail (suc G.size) answer.fore.labels answer.meet ≡ m.front ++ (m.cut ∷ m.ahead)
        chain_f =
            trail_one (side answer.fore)
            (trail_is (λ u v q. G.price u v ≡ some q) (At s) answer.fore kept.rank_f root_f (suc G.size) answer.meet has_f.0
            (omega (arith, kept.fore.ranked answer.meet, Tally.tally_le (label_at answer.fore.labels) G.size)) has_f.1) m.forward ∙ m.chain_is

        chain_b : trail (suc G.size) answer.back.labels answer.meet ≡ m.other_front ++ (m.cut ∷ m.rest)
        chain_b =
            trail_one (side answer.back)
            (trail_is (λ u v q. G.price v u ≡ some q) (At t) answer.back kept.rank_b root_b (suc G.size) answer.meet has_b.0
            (omega (arith, kept.back.ranked answer.meet, Tally.tally_le (label_at answer.back.labels) G.size)) has_b.1) m.backward ∙ m.other_is

        same : route G.size answer ≡ onto m.ahead (m.cut ∷ m.rest)
        same =
            ap (λ z. spliced (onto z []) (trail (suc G.size) answer.back.labels answer.meet)) chain_f
            ∙ ap (λ z. spliced (onto (m.front ++ (m.cut ∷ m.ahead)) []) z) chain_b
            ∙ splice m.front m.ahead m.other_front m.rest m.cut
            (subst NoneTwice m.other_is (once C (λ u v q. G.price v u ≡ some q) (At t) (side answer.back) kept.rank_b root_b m.backward))
            (λ y i j. m.lone y i (subst (Among y) (sym m.other_is) j))
