-- The route needs no splicing: the forward chain of the meeting place turned round, and then the backward chain. The two
-- chains share the meeting place alone, whatever the table holds.
use Rattle.std.proofs.Common.{◌≡◌, ℕ, zero, suc, ◌+◌, ◌<◌, ◌≤◌, Bool, false, List, [], ◌∷◌, length, sym, refl, ap, ◌∙◌, subst, inl, inr, ⊎_elim, arith}
use Rattle.fringe.specs.Orders.{TotalOrder}
use Rattle.map.specs.Model.{MapModel, WellFormed}
use Rattle.measure.specs.Costs.{CostLaws}
use Rattle.routes.specs.Costs.{Costs}
use Rattle.routes.specs.Walks.{Roads, Back, At}
use Rattle.routes.specs.States.{Origin, Start, From, Label, Blank, Reached, Settled, Has, IsSettled}
use Rattle.routes.specs.Promise.{Among, NoneTwice}
use Rattle.routes.specs.Routes.{Holds, onto, Trail, first, then}
use Rattle.routes.specs.Kept.{weight, tally, One}
use Rattle.routes.specs.Scales.{Scale, ops}
use Rattle.routes.specs.Search.{Ops, ops_of, Given, Half, Both, label_at, side, trail, spliced, route, search_best}
use Rattle.routes.specs.Asking.{Table, given}
use Rattle.routes.specs.Asked.{Road}
use Rattle.routes.proofs.Scan.{settled_has}
use Rattle.routes.proofs.Tally
use Rattle.routes.proofs.Chains
use Rattle.routes.proofs.Whole
use Rattle.routes.proofs.MapRoads
use Rattle.routes.proofs.Linked
use Rattle.routes.proofs.Distinct
use Rattle.routes.specs.Unspliced.{Unspliced}
use Rattle.routes.proofs.Apart.{Fair}
use Rattle.routes.proofs.PartedRun.{Keeps, search_keeps}

module _ (C : Costs) where
  open C use {Cost, ◌≼◌, blocked}

  infix 40 ◌≼◌
  module _ (E : Roads C) (n : ℕ) (starts : ℕ → Type 0) (h : Half Cost) (rank : ℕ → ℕ) (g : One C E n starts (side h) rank) where
    -- the chain that is computed
    computed : (m v : ℕ) (c : Cost) → rank v < m → Has (label_at h.labels v) c → Trail (side h) v (trail m h.labels v)
    computed zero v c l k = absurd (omega arith)
    computed (suc m) v c l k = by (computed m) (label_at h.labels v) refl
      where
        more : ((u : ℕ) (d : Cost) → rank u < m → Has (label_at h.labels u) d → Trail (side h) u (trail m h.labels u)) →
            (o : Origin) (d : Cost) → Holds (label_at h.labels v) d o → Trail (side h) v (elim o [ Start ↦ v ∷ [] | From u ↦ v ∷ trail m h.labels u ])
        more r Start d q = first d q
        more r (From u) d q = let f = g.from v u d q in then d q (r u f.0 (omega (arith, f.5, l)) (settled_has (label_at h.labels u) f.0 f.2))

        by : ((u : ℕ) (d : Cost) → rank u < m → Has (label_at h.labels u) d → Trail (side h) u (trail m h.labels u)) →
            (x : Label Cost) → label_at h.labels v ≡ x → Trail (side h) v (elim x [
              | Blank ↦ []
              | Reached c o ↦ elim o [ Start ↦ v ∷ [] | From u ↦ v ∷ trail m h.labels u ]
              | Settled c o ↦ elim o [ Start ↦ v ∷ [] | From u ↦ v ∷ trail m h.labels u ]
            ])
        by r Blank e = absurd (subst (λ z. Has z c) e k)
        by r (Reached d o) e = more r o d (subst (λ z. Holds z d o) (sym e) (refl, refl))
        by r (Settled d o) e = more r o d (subst (λ z. Holds z d o) (sym e) (refl, refl))

    -- A chain after its first place: the side has settled all of it.
    pub record After (v : ℕ) (l : List ℕ) : Type 0 where
      pub rest : List ℕ
      pub is : l ≡ v ∷ rest
      pub settled : (y : ℕ) → Among y rest → (c : Cost) × IsSettled (label_at h.labels y) c

    after : {v : ℕ} {l : List ℕ} → Trail (side h) v l → After v l
    after (first c q) = record { rest = []; is = refl; settled = λ y i. absurd i }
    after (then {v} {u} {l} c q w) =
        let k = after w in
        let f = g.from v u c q in
        record {
          rest = l;
          is = refl;
          settled = λ y i. ⊎_elim (λ e. (f.0, subst (λ z. IsSettled (label_at h.labels z) f.0) (sym e) f.2)) (k.settled y) (subst (Among y) k.is i);
        }

    -- The chain of a place, as it is computed: it meets no place twice, and all of it but the place itself is settled.
    pub record Chain (v : ℕ) : Type 0 where
      pub rest : List ℕ
      pub is : trail (suc n) h.labels v ≡ v ∷ rest
      pub once : NoneTwice (v ∷ rest)
      pub settled : (y : ℕ) → Among y rest → (c : Cost) × IsSettled (label_at h.labels y) c
      pub known : (y : ℕ) → Among y (v ∷ rest) → y < n

    -- Each place that the side has labelled has one.
    pub chain : (v : ℕ) (c : Cost) → Has (label_at h.labels v) c → Chain v
    chain v c k =
        let w : Trail (side h) v (trail (suc n) h.labels v) = computed (suc n) v c (omega (arith, g.ranked v, Tally.tally_le (label_at h.labels) n)) k in
        let a = after w in
        record {
          rest = a.rest;
          is = a.is;
          once = subst NoneTwice a.is (Chains.once C E starts (side h) rank (Whole.rooted C E n starts (side h) rank g) w);
          settled = a.settled;
          known = λ y i. ⊎_elim (λ e. subst (λ z. z < n) (sym e) (g.inside v c k)) (λ j. let f = a.settled y j in g.inside y f.0 (settled_has (label_at h.labels y) f.0 f.1)) i;
        }

  module _ (E : Roads C) (n s t : ℕ) (x : Both Cost) (k : Keeps C E n s t x) where
    joined : (f : Chain E n (At s) x.fore k.parted.rank_f k.parted.fore x.meet)
        (b : Chain (Back C E) n (At t) x.back k.parted.rank_b k.parted.back x.meet) → Unspliced n x
    joined f b = record {
      rest = f.rest;
      forward_is = f.is;
      others = b.rest;
      backward_is = b.is;
      route_is = same;
      none_twice = once;
      known = inside;
      short = Distinct.at_most n (route n x) once inside;
      length_is = omega (arith, ap length same, Distinct.onto_length f.rest (x.meet ∷ b.rest));
      meet_known = f.known x.meet (inl refl);
    }
      where
        lone : (y : ℕ) → Among y f.rest → Among y (x.meet ∷ b.rest) → ⊥
        lone y i (inl e) = f.once.0 (subst (λ z. Among z f.rest) e i)
        lone y i (inr j) = let u = f.settled y i in let w = b.settled y j in k.parted.apart y u.0 w.0 u.1 w.1

        same : route n x ≡ onto f.rest (x.meet ∷ b.rest)
        same =
            ap (λ z. spliced (onto z []) (trail (suc n) x.back.labels x.meet)) f.is
            ∙ ap (spliced (onto (x.meet ∷ f.rest) [])) b.is
            ∙ Distinct.splice_whole x.meet f.rest b.rest lone

        once : NoneTwice (route n x)
        once = subst NoneTwice (sym same) (Chains.onto_once f.rest (x.meet ∷ b.rest) f.once.1 b.once lone)

        inside : (y : ℕ) → Among y (route n x) → y < n
        inside y i = ⊎_elim (λ j. f.known y (inr j)) (b.known y) (Distinct.onto_in y f.rest (x.meet ∷ b.rest) (subst (Among y) same i))

    -- Where best is not blocked the route of the state needs no splicing.
    pub unspliced_at : (blocked ≼ x.best → ⊥) → Unspliced n x
    unspliced_at open_best = ⊎_elim (λ e. absurd (open_best e))
        (λ m. joined
        (chain E n (At s) x.fore k.parted.rank_f k.parted.fore x.meet m.0 m.2)
        (chain (Back C E) n (At t) x.back k.parted.rank_b k.parted.back x.meet m.1 m.3)) k.parted.attained

    weights : (a b : Label Cost) → ((c d : Cost) → IsSettled a c → IsSettled b d → ⊥) → weight a + weight b ≤ 1
    weights Blank Blank h = omega arith
    weights Blank (Reached d q) h = omega arith
    weights Blank (Settled d q) h = omega arith
    weights (Reached c o) Blank h = omega arith
    weights (Reached c o) (Reached d q) h = omega arith
    weights (Reached c o) (Settled d q) h = omega arith
    weights (Settled c o) Blank h = omega arith
    weights (Settled c o) (Reached d q) h = omega arith
    weights (Settled c o) (Settled d q) h = absurd (h c d refl refl)

    tallies : (m : ℕ) → tally (label_at x.fore.labels) m + tally (label_at x.back.labels) m ≤ m
    tallies zero = omega arith
    tallies (suc m) = omega (arith, tallies m, weights (label_at x.fore.labels m) (label_at x.back.labels m) (k.parted.apart m))

    -- No place is settled twice, so there were no more turns than places.
    pub few_turns : x.expansions + x.prunings ≤ n
    few_turns = omega (arith, k.counted, tallies n)

  module _ (S : Scale C) (G : Given Cost) (R : Fair C G) (s t : ℕ) (ls : s < G.size) (lt : t < G.size) where
    -- The route of a search whose best is not blocked needs no splicing.
    pub unspliced : (blocked ≼ (search_best (ops C S) G s t).best → ⊥) → Unspliced G.size (search_best (ops C S) G s t)
    unspliced = unspliced_at (Road C G) G.size s t (search_best (ops C S) G s t) (search_keeps C S G R s t ls lt)

    -- A search expands and prunes no more places than there are.
    pub no_more_turns : (search_best (ops C S) G s t).expansions + (search_best (ops C S) G s t).prunings ≤ G.size
    no_more_turns = few_turns (Road C G) G.size s t (search_best (ops C S) G s t) (search_keeps C S G R s t ls lt)

-- The same of what a question gives, whatever the base map and the table are.
module _ {K T : Type 0} (thing : K → T) (leq : T → T → Bool) (order : TotalOrder leq)
    (plus : K → K → K) (nil blocked : K) (price : ℕ → ℕ → K) (code : K → ℕ) (laws : CostLaws thing leq plus nil blocked price code)
    (now base : MapModel) (fits : WellFormed now) (table : Table K) (empty : Bool) where
  abbrev O : Ops K
  O = ops_of thing leq plus nil blocked

  abbrev G : Given K
  G = given nil price now base table empty

  -- The open roads of a map lead between its places, and each has a price.
  pub given_fair : Fair (Linked.costs thing leq order plus nil blocked price code laws) G
  given_fair = record {
    inside = λ u v p e. let r = MapRoads.price_open plus nil price now fits u v p e in
        (MapRoads.start_known plus nil price now fits u v p r, MapRoads.end_known plus nil price now fits u v p r);
    prices = λ u v p e. Linked.priced_road thing leq order plus nil blocked price code laws now fits u v p (MapRoads.price_open plus nil price now fits u v p e);
  }

  module _ (s t : ℕ) (ls : s < now.places) (lt : t < now.places) where
    -- The route of a question whose best is not blocked needs no splicing.
    pub given_unspliced : leq (thing blocked) (thing (search_best O G s t).best) ≡ false → Unspliced now.places (search_best O G s t)
    given_unspliced e =
        unspliced (Linked.costs thing leq order plus nil blocked price code laws) (Linked.scale thing leq order plus nil blocked price code laws) G given_fair s t ls lt
        ((Linked.scale thing leq order plus nil blocked price code laws).leq_false blocked (search_best O G s t).best e)

    -- The search for it expands and prunes no more places than there are.
    pub given_turns : (search_best O G s t).expansions + (search_best O G s t).prunings ≤ now.places
    given_turns = no_more_turns (Linked.costs thing leq order plus nil blocked price code laws) (Linked.scale thing leq order plus nil blocked price code laws) G given_fair s t ls lt
