-- The chains of origins: they exist, meet no place twice, and make a route of cost best.
use Rattle.std.proofs.Common.{◌≡◌, ℕ, zero, suc, ◌<◌, ◌≤◌, ◌⊎◌, List, [], ◌∷◌, ◌++◌, sym, refl, ap, ◌∙◌, subst, inl, inr, ⊎_elim, arith}
use native.Mathlib.Decide.{ℕ_discrete}
use Rattle.routes.specs.Costs.{Costs, Same}
use Rattle.routes.specs.Walks.{Roads, Back, Walk, stay, At}
use Rattle.routes.specs.States.{Origin, Start, From, Label, Blank, Reached, Settled, Side, State, Has}
use Rattle.routes.specs.Promise.{Among, NoneTwice}
use Rattle.routes.specs.Routes.{Holds, onto, Trail, first, then, Route, end, go, Course, Rooted, Simple}
use Rattle.routes.specs.Invariants.{Standing, Stopped, AllPriced}
use Rattle.routes.proofs.Sums
use Rattle.routes.proofs.Scan.{has_one}
use Rattle.routes.proofs.Final.{least}

pub in_dec : (a : ℕ) (l : List ℕ) → Among a l ⊎ (Among a l → ⊥)
in_dec a [] = inr (λ h. h)
in_dec a (b ∷ l) = by (ℕ_discrete a b) (in_dec a l)
  where
    by : Dec (a ≡ b) → Among a l ⊎ (Among a l → ⊥) → Among a (b ∷ l) ⊎ (Among a (b ∷ l) → ⊥)
    by (yes e) _ = inl (inl e)
    by (no n) (inl h) = inl (inr h)
    by (no n) (inr k) = inr (⊎_elim n k)

pub onto_once : (l m : List ℕ) → NoneTwice l → NoneTwice m → ((y : ℕ) → Among y l → Among y m → ⊥) → NoneTwice (onto l m)
onto_once [] m h k d = k
onto_once (a ∷ l) m h k d =
    onto_once l (a ∷ m) h.1 (d a (inl refl), k)
    (λ y i j. ⊎_elim (λ e. h.0 (subst (λ z. Among z l) e i)) (λ j'. d y (inr i) j') j)

module _ {K : Type 0} where
  pub holds_has : (l : Label K) (c : K) (o : Origin) → Holds l c o → Has l c
  holds_has Blank c o h = h
  holds_has (Reached d q) c o h = h.0
  holds_has (Settled d q) c o h = h.0

  pub has_holds : (l : Label K) (c : K) → Has l c → (o : Origin) × Holds l c o
  has_holds Blank c h = absurd h
  has_holds (Reached d q) c h = (q, (h, refl))
  has_holds (Settled d q) c h = (q, (h, refl))

module _ (C : Costs) where
  open C use {Cost, ◌≼◌, ◌⊕◌, free, blocked, ≼_refl, ≼_trans, ⊕_assoc, ⊕_comm, free_⊕, ⊕_more}

  infix 40 ◌≼◌
  infixl 65 ◌⊕◌
  -- the same route at another value for its cost, and one road more
  pub over : {E : Roads C} {a b : ℕ} {l : List ℕ} {c d : Cost} → Same C c d → Course C E a b l c → Course C E a b l d
  over e w = (w.0, w.1, Sums.same_on C w.2 e)

  onward : {E : Roads C} {a b d : ℕ} {l : List ℕ} {p c : Cost} → E a b p → Course C E b d l c → Course C E a d (a ∷ l) (p ⊕ c)
  onward {p = p} r w = (p ⊕ w.0, go r w.1, Sums.same_sum C (Sums.same_refl C p) w.2)

  module _ (E : Roads C) (starts : ℕ → Type 0) (σ : Side Cost) (rank : ℕ → ℕ) (g : Rooted C E starts σ rank) where
    -- a label's chain
    trail : (n v : ℕ) (c : Cost) → rank v < n → Has (σ.label v) c → (l : List ℕ) × Trail σ v l
    trail zero v c h k = absurd (omega arith)
    trail (suc n) v c h k = let o = has_holds (σ.label v) c k in by (trail n) o.0 o.1
      where
        by : ((u : ℕ) (d : Cost) → rank u < n → Has (σ.label u) d → (l : List ℕ) × Trail σ u l) →
            (o : Origin) → Holds (σ.label v) c o → (l : List ℕ) × Trail σ v l
        by _ Start q = (v ∷ [], first c q)
        by more (From u) q = let f = g.from v u c q in let w = more u f.0 (omega (arith, f.5)) f.2 in (v ∷ w.0, then c q w.1)

    pub chain : (v : ℕ) (c : Cost) → Has (σ.label v) c → (l : List ℕ) × Trail σ v l
    chain v c h = trail (suc (rank v)) v c (omega arith) h

    low : {v : ℕ} {l : List ℕ} → Trail σ v l → (y : ℕ) → Among y l → rank y ≤ rank v
    low (first c h) y i = ⊎_elim (λ e. rw e (omega arith)) (λ k. absurd k) i
    low (then {v} {u} c h w) y (inl e) = rw e (omega arith)
    low (then {v} {u} c h w) y (inr i) = omega (arith, low w y i, (g.from v u c h).5)

    pub once : {v : ℕ} {l : List ℕ} → Trail σ v l → NoneTwice l
    once (first c h) = (λ k. k, tt)
    once (then {v} {u} c h w) = (λ i. absurd (omega (arith, low w v i, (g.from v u c h).5)), once w)

    begins : {v : ℕ} {l : List ℕ} → Trail σ v l → Among v l
    begins (first c h) = inl refl
    begins (then c h w) = inl refl

    -- the chain of a place on a chain: its places are on that, and it costs no more
    pub record Part (v : ℕ) (l : List ℕ) (c : Cost) (x : ℕ) : Type 0 where
      pub front : List ℕ
      pub rest : List ℕ
      pub split : l ≡ front ++ (x ∷ rest)
      pub tail : Trail σ x (x ∷ rest)
      pub inside : (y : ℕ) → Among y (x ∷ rest) → Among y l
      pub cost : Cost
      pub has : Has (σ.label x) cost
      pub less : cost ≼ c

    whole : {v : ℕ} {l : List ℕ} (c : Cost) → Has (σ.label v) c → Trail σ v (v ∷ l) → Part v (v ∷ l) c v
    whole {v} {l} c h w = record { front = []; rest = l; split = refl; tail = w; inside = λ y i. i; cost = c; has = h; less = ≼_refl c }

    -- one origin back costs no more
    back_less : (v u : ℕ) (c d : Cost) (q : Holds (σ.label v) c (From u)) → Has (σ.label v) d → (g.from v u c q).0 ≼ d
    back_less v u c d q h =
        let f = g.from v u c q in
        let e : c ≡ d = has_one (σ.label v) c d (holds_has (σ.label v) c (From u) q) h in
        subst (λ z. f.0 ≼ z) (sym f.4 ∙ e) (⊕_more f.0 f.1)

    pub part : {v : ℕ} {l : List ℕ} → Trail σ v l → (x : ℕ) → Among x l → (c : Cost) → Has (σ.label v) c → Part v l c x
    part (first {v} d q) x (inl e) c h = subst (Part v (v ∷ []) c) (sym e) (whole c h (first d q))
    part (first d q) x (inr i) c h = absurd i
    part (then {v} {u} {l} d q w) x (inl e) c h = subst (Part v (v ∷ l) c) (sym e) (whole c h (then d q w))
    part (then {v} {u} {l} d q w) x (inr i) c h =
        let f = g.from v u d q in
        let k = part w x i f.0 f.2 in
        record { front = v ∷ k.front; rest = k.rest; split = ap (λ z. v ∷ z) k.split; tail = k.tail; inside = λ y j. inr (k.inside y j); cost = k.cost; has = k.has; less = ≼_trans _ _ _ k.less (back_less v u d c q h) }

    -- the chain read from its place to its start, against the roads
    pub follow : {v : ℕ} {l : List ℕ} → Trail σ v l → (c : Cost) → Has (σ.label v) c → (a : ℕ) × starts a × Course C (Back C E) v a l c
    follow (first {v} d q) c h =
        let f = g.root v d q in
        (v, f.0, (free, end, Sums.same_≡ C (sym f.1 ∙ has_one (σ.label v) d c (holds_has (σ.label v) d Start q) h)))
    follow (then {v} {u} {l} d q w) c h =
        let f = g.from v u d q in
        let k = follow w f.0 f.2 in (
          k.0,
          k.1,
          over (Sums.same_on C (⊕_comm f.1 f.0) (Sums.same_≡ C (sym f.4 ∙ has_one (σ.label v) d c (holds_has (σ.label v) d (From u) q) h))) (onward f.3 k.2),
        )

    -- the chain read from its start, and a route on from its place
    pub lead : {v t : ℕ} {l m : List ℕ} {e : Cost} → Trail σ v l → (c : Cost) → Has (σ.label v) c → Course C E v t (v ∷ m) e → (a : ℕ) × starts a × Course C E a t (onto l m) (c ⊕ e)
    lead {e = e} (first {v} d q) c h r =
        let f = g.root v d q in
        (v, f.0, over (Sums.same_on C (Sums.same_back C (free_⊕ e)) (Sums.same_≡ C (ap (λ k. k ⊕ e) (sym f.1 ∙ has_one (σ.label v) d c (holds_has (σ.label v) d Start q) h)))) r)
    lead {e = e} (then {v} {u} {l} d q w) c h r =
        let f = g.from v u d q in
        let k = lead w f.0 f.2 (onward f.3 r) in (
          k.0,
          k.1,
          over (Sums.same_on C (Sums.same_back C (⊕_assoc f.0 f.1 e)) (Sums.same_≡ C (ap (λ k. k ⊕ e) (sym f.4 ∙ has_one (σ.label v) d c (holds_has (σ.label v) d (From u) q) h)))) k.2,
        )

    -- the place of the chain nearest to the start that is in m
    pub record Nearest (v : ℕ) (l m : List ℕ) (c : Cost) : Type 0 where
      pub place : ℕ
      pub front : List ℕ
      pub ahead : List ℕ
      pub split : l ≡ front ++ (place ∷ ahead)
      pub tail : Trail σ place (place ∷ ahead)
      pub common : Among place m
      pub lone : (y : ℕ) → Among y ahead → Among y m → ⊥
      pub cost : Cost
      pub has : Has (σ.label place) cost
      pub less : cost ≼ c

    pub nearest : {v : ℕ} {l : List ℕ} (m : List ℕ) → Trail σ v l → (c : Cost) → Has (σ.label v) c → ((y : ℕ) → Among y l → Among y m → ⊥) ⊎ Nearest v l m c
    nearest m (first {v} d q) c h =
        ⊎_elim (λ i. inr (record { place = v; front = []; ahead = []; split = refl; tail = first d q; common = i; lone = λ y j _. j; cost = c; has = h; less = ≼_refl c }))
        (λ n. inl (λ y i j. ⊎_elim (λ e. n (subst (λ z. Among z m) e j)) (λ k. k) i)) (in_dec v m)
    nearest m (then {v} {u} {l} d q w) c h = by (nearest m w (g.from v u d q).0 (g.from v u d q).2) (in_dec v m)
      where
        by : ((y : ℕ) → Among y l → Among y m → ⊥) ⊎ Nearest u l m (g.from v u d q).0 → Among v m ⊎ (Among v m → ⊥) → ((y : ℕ) → Among y (v ∷ l) → Among y m → ⊥) ⊎ Nearest v (v ∷ l) m c
        by (inr n) _ = inr (record { place = n.place; front = v ∷ n.front; ahead = n.ahead; split = ap (λ z. v ∷ z) n.split; tail = n.tail; common = n.common; lone = n.lone; cost = n.cost; has = n.has; less = ≼_trans _ _ _ n.less (back_less v u d c q h) })
        by (inl n) (inl i) = inr (record { place = v; front = []; ahead = l; split = refl; tail = then d q w; common = i; lone = n; cost = c; has = h; less = ≼_refl c })
        by (inl n) (inr k) = inl (λ y i j. ⊎_elim (λ e. k (subst (λ z. Among z m) e j)) (λ i'. n y i' j) i)

  pub walked : {E : Roads C} {a b : ℕ} {l : List ℕ} {c : Cost} → Route C E a b l c → Walk C E a b c
  walked end = stay
  walked (go r w) = Walk.go r (walked w)

  module _ (E : Roads C) (s t : ℕ) (x : State Cost) (prices : AllPriced C E) (i : Standing C E s t x) (stop : Stopped C x)
      (rank_f rank_b : ℕ → ℕ) (f : Rooted C E (At s) x.fore rank_f) (b : Rooted C (Back C E) (At t) x.back rank_b) where
    pub simple : (blocked ≼ x.best → ⊥) → Simple C E s t x
    simple h = ⊎_elim (λ e. absurd (h e)) (λ m. made m.0 m.1 m.2 m.3 m.4) i.attained
      where
        made : (c d : Cost) → Has (x.fore.label x.meet) c → Has (x.back.label x.meet) d → c ⊕ d ≼ x.best → Simple C E s t x
        made c d hc hd l =
            let p = chain E (At s) x.fore rank_f f x.meet c hc in
            let q = chain (Back C E) (At t) x.back rank_b b x.meet d hd in
            ⊎_elim (λ n. absurd (n x.meet (begins E (At s) x.fore rank_f f p.1) (begins (Back C E) (At t) x.back rank_b b q.1)))
            (λ n. cut p q n (part (Back C E) (At t) x.back rank_b b q.1 n.place n.common d hd))
            (nearest E (At s) x.fore rank_f f q.0 p.1 c hc)
          where
            cut : (p : (l : List ℕ) × Trail x.fore x.meet l) (q : (l : List ℕ) × Trail x.back x.meet l) (n : Nearest E (At s) x.fore rank_f f x.meet p.0 q.0 c) →
                Part (Back C E) (At t) x.back rank_b b x.meet q.0 d n.place → Simple C E s t x
            cut p q n k = record {
              chain = p.0;
              other = q.0;
              forward = p.1;
              backward = q.1;
              cut = n.place;
              front = n.front;
              other_front = k.front;
              chain_is = n.split;
              other_is = k.split;
              ahead = n.ahead;
              rest = k.rest;
              to_cut = n.tail;
              from_cut = k.tail;
              common = n.common;
              lone = n.lone;
              route = (way.0, way.1, (≼_trans _ _ _ way.2.0 (≼_trans _ _ _ (Sums.mono₂ C n.less k.less) l), (least C E s t x prices i stop).lower way.0 (walked way.1)));
              no_twice = onto_once n.ahead (n.place ∷ k.rest) (once E (At s) x.fore rank_f f n.tail).1 (once (Back C E) (At t) x.back rank_b b k.tail)
                  (λ y u v. n.lone y u (k.inside y v));
            }
              where
                to : (a : ℕ) × (a ≡ t) × Course C E n.place a (n.place ∷ k.rest) k.cost
                to = follow (Back C E) (At t) x.back rank_b b k.tail k.cost k.has

                from : (a : ℕ) × (a ≡ s) × Course C E a t (onto n.ahead (n.place ∷ k.rest)) (n.cost ⊕ k.cost)
                from = lead E (At s) x.fore rank_f f n.tail n.cost n.has (subst (λ z. Course C E n.place z (n.place ∷ k.rest) k.cost) to.1 to.2)

                way : Course C E s t (onto n.ahead (n.place ∷ k.rest)) (n.cost ⊕ k.cost)
                way = subst (λ z. Course C E z t (onto n.ahead (n.place ∷ k.rest)) (n.cost ⊕ k.cost)) from.1 from.2
