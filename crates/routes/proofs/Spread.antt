-- What the end of a spread says: the first place settled of each district has the least cost of all walks to it.
use Rattle.std.proofs.Common.{◌≡◌, ℕ, zero, suc, ◌<◌, ◌⊎◌, sym, ◌∙◌, subst, ⊎_elim, arith}
use mathlib.Core.Option.{some}
use Rattle.routes.specs.Costs.{Costs}
use Rattle.routes.specs.Walks.{Roads, Walk, Way, stay}
use Rattle.routes.specs.States.{Origin, Start, From, Side, Has, IsReached, IsSettled}
use Rattle.routes.specs.Routes.{Holds, Rooted}
use Rattle.routes.specs.Spreads.{Stems, here, on, Spread, Ground, Spreads, FirstOk, Spreading, Grows, begin, turn, Ended, Closest, Spanned}
use Rattle.routes.proofs.Scan
use Rattle.routes.proofs.Scan.{settled_has, has_one}
use Rattle.routes.proofs.Sums
use Rattle.routes.proofs.Ways
use Rattle.routes.proofs.Settle
use Rattle.routes.proofs.Expand
use Rattle.routes.proofs.Begin
use Rattle.routes.proofs.Whole
use Rattle.routes.proofs.Gate.{grown, known_or}
use Rattle.routes.proofs.Chains.{holds_has, has_holds}

module _ (C : Costs) where
  open C use {Cost, ◌≼◌, ◌⊕◌, ≼_trans}

  infix 40 ◌≼◌
  infixl 65 ◌⊕◌
  -- the start of a chain is joined to its place at the label's cost
  module _ (E : Roads C) (starts : ℕ → Type 0) (σ : Side Cost) (rank : ℕ → ℕ) (g : Rooted C E starts σ rank) where
    pub stems_way : {v a : ℕ} → Stems σ v a → (c : Cost) → Has (σ.label v) c → starts a × Way C E a v c
    stems_way (here {v} d q) c h =
        let f = g.root v d q in
        (f.0, Ways.over C (Sums.same_≡ C (sym f.1 ∙ has_one (σ.label v) d c (holds_has (σ.label v) d Start q) h)) (Ways.way C stay))
    stems_way (on {v} {u} d q k) c h =
        let f = g.from v u d q in
        let w = stems_way k f.0 f.2 in
        (w.0, Ways.over C (Sums.same_≡ C (sym f.4 ∙ has_one (σ.label v) d c (holds_has (σ.label v) d (From u) q) h)) (Ways.join C w.1 (Ways.one C f.3)))

    chain : (n v : ℕ) (c : Cost) → rank v < n → Has (σ.label v) c → (a : ℕ) × Stems σ v a
    chain zero v c h k = absurd (omega arith)
    chain (suc n) v c h k = let o = has_holds (σ.label v) c k in by (chain n) o.0 o.1
      where
        by : ((u : ℕ) (d : Cost) → rank u < n → Has (σ.label u) d → (a : ℕ) × Stems σ u a) → (o : Origin) → Holds (σ.label v) c o → (a : ℕ) × Stems σ v a
        by _ Start q = (v, here c q)
        by more (From u) q = let f = g.from v u c q in let w = more u f.0 (omega (arith, f.5)) f.2 in (w.0, on c q w.1)

    pub stem : (v : ℕ) (c : Cost) → Has (σ.label v) c → (a : ℕ) × Stems σ v a
    stem v c h = chain (suc (rank v)) v c (omega arith) h

  module _ (E : Roads C) (district : ℕ → ℕ) (size : ℕ) (starts : ℕ → Type 0) (ground : Ground C E district size starts) where
    module _ (x x' : Spread Cost) (k : Spreading C E district size starts x) (T : Spreads C E district x x') where
      settled_back : (b : ℕ) (d : Cost) → IsSettled (x'.side.label b) d → IsSettled (x.side.label b) d ⊎ ((b ≡ T.u) × (T.c ≡ d))
      settled_back b d i =
          Settle.settled_back C x.side T.mid T.u T.c T.origin T.settles b d (Expand.settled_back C E T.mid x'.side T.u T.c T.expands b d i)

      settled_over : (b : ℕ) (d : Cost) → IsSettled (x.side.label b) d → IsSettled (x'.side.label b) d
      settled_over b d i =
          Expand.settled_over C E T.mid x'.side T.u T.c T.expands b d (Settle.settled_over C x.side T.mid T.u T.c T.origin T.settles b d i)

      -- the chain of a settled place stays
      holds_over : (v : ℕ) (c d : Cost) (o : Origin) → IsSettled (x.side.label v) c → Holds (x.side.label v) d o → Holds (x'.side.label v) d o
      holds_over v c d o i h = ⊎_elim
          (λ l. subst (λ z. Holds z d o) (sym l.is) (Settle.holds_over C x.side T.mid T.u T.c T.origin T.settles v d o h))
          (λ l. absurd (l.1.unsettled c (Settle.settled_over C x.side T.mid T.u T.c T.origin T.settles v c i))) (T.expands.labels v)

      pub stems_over : {v a : ℕ} (c : Cost) → IsSettled (x.side.label v) c → Stems x.side v a → Stems x'.side v a
      stems_over c i (here {v} d q) = here d (holds_over v c d Start i q)
      stems_over c i (on {v} {u} d q w) = let f = k.one.from v u d q in on d (holds_over v c d (From u) i q) (stems_over f.0 f.2 w)

      was : IsReached (x.side.label T.u) T.c
      was = Settle.was_reached C x.side T.mid T.u T.c T.origin T.settles

      now : IsSettled (T.mid.label T.u) T.c
      now = Settle.is_settled C x.side T.mid T.u T.c T.origin T.settles

      first_after : (j : ℕ) → FirstOk C E district x'.side j (x'.first j)
      first_after j = ⊎_elim
          (λ e. let old = subst (FirstOk C E district x.side j) e (k.firsts j) in
          ⊎_elim
          (λ f. subst (FirstOk C E district x'.side j) (sym f.1) (
            T.c,
            Expand.settled_over C E T.mid x'.side T.u T.c T.expands T.u T.c now,
            f.0,
            λ b d i q. ⊎_elim (λ i₀. absurd (old b d i₀ q)) (λ h. Sums.≼_≡ C h.1) (settled_back b d i),
          ))
          (λ f. subst (FirstOk C E district x'.side j) (sym f.1) (λ b d i q. ⊎_elim (λ i₀. old b d i₀ q) (λ h. f.0 (subst (λ z. district z ≡ j) h.0 q)) (settled_back b d i)))
          (T.firsts.fresh j e))
          (λ v. let old = subst (FirstOk C E district x.side j) v.1 (k.firsts j) in
          subst (FirstOk C E district x'.side j) (sym (T.firsts.known j v.0 v.1)) (
            old.0,
            settled_over v.0 old.0 old.1,
            old.2,
            λ b d i q. ⊎_elim (λ i₀. old.3 b d i₀ q) (λ h. subst (λ z. old.0 ≼ z) h.1 (k.one.ordered v.0 T.u old.0 T.c old.1 was)) (settled_back b d i),
          ))
          (known_or (x.first j))

      pub turned : Spreading C E district size starts x'
      turned = record {
        rank = Settle.rank_after C x.side T.mid T.u T.c T.origin T.settles k.rank;
        one = Expand.one C E T.mid x'.side T.u T.c T.expands size starts _
            (Settle.one C x.side T.mid T.u T.c T.origin T.settles E size starts k.rank k.one) now
            (Settle.settled_low C x.side T.mid T.u T.c T.origin T.settles E size starts k.rank k.one) ground.inside ground.single
            (λ v p r. Settle.priced_on C x.side T.mid T.u T.c T.origin T.settles E size starts k.rank k.one p (ground.prices T.u v p r));
        whole = λ v d p.
            let m = Expand.pruned_back C E T.mid x'.side T.u T.c T.expands v d p in
            ⊎_elim (λ e. m.0 e.0) (k.whole v d) (Settle.pruned_back C x.side T.mid T.u T.c T.origin T.settles v d m.1);
        firsts = first_after;
      }

    pub kept : {x : Spread Cost} → Grows C E district starts x → Spreading C E district size starts x
    kept (begin {x} h n) = record {
      rank = λ _. 0;
      one = Begin.one C E size starts x.side h ground.which ground.room;
      whole = Begin.pruned C E size starts x.side h ground.which ground.room;
      firsts = λ j. subst (FirstOk C E district x.side j) (sym (n j)) (λ b d i q. Begin.unsettled C E size starts x.side h ground.which ground.room b d i);
    }
    kept (turn {x} {x'} r T) = turned x x' (kept r) T

    -- the end
    module _ (x : Spread Cost) (r : Grows C E district starts x) (end : Ended C E district x) where
      k : Spreading C E district size starts x
      k = kept r

      reaches : (a v : ℕ) (w : Cost) → starts a → Walk C E a v w → (c : Cost) × IsSettled (x.side.label v) c × (c ≼ w)
      reaches a v w s p = ⊎_elim (λ t. (t.cost, t.expanded_there.0, t.least)) held
          (Scan.scan₀ C E starts x.side (grown C E size starts x.side k.rank k.one ground.small) s p)
        where
          held : Scan.Held C E starts v x.side w → (c : Cost) × IsSettled (x.side.label v) c × (c ≼ w)
          held t = absurd (⊎_elim (end t.place t.cost) (k.whole t.place t.cost) t.unexpanded)

      closest : (j v : ℕ) → x.first j ≡ some v → Closest C E district starts x.side j v
      closest j v e = record {
        cost = f.0;
        settled = f.1;
        inside = f.2;
        least = λ a b w s q p. let h = reaches a b w s p in ≼_trans _ _ _ (f.3 b h.0 h.1 q) h.2;
        root = stem_v.0;
        stems = stem_v.1;
        joined = λ a q. stems_way E starts x.side k.rank rooted q f.0 has_v;
        few_prices = (grown C E size starts x.side k.rank k.one ground.small).priced v f.0 has_v;
      }
        where
          f : (c : Cost) × IsSettled (x.side.label v) c × (district v ≡ j) × ((b : ℕ) (d : Cost) → IsSettled (x.side.label b) d → district b ≡ j → c ≼ d)
          f = subst (FirstOk C E district x.side j) e (k.firsts j)

          has_v : Has (x.side.label v) f.0
          has_v = settled_has (x.side.label v) f.0 f.1

          rooted : Rooted C E starts x.side k.rank
          rooted = Whole.rooted C E size starts x.side k.rank k.one

          stem_v : (a : ℕ) × Stems x.side v a
          stem_v = stem E starts x.side k.rank rooted v f.0 has_v

      pub spanned : Spanned C E district starts x
      spanned = record {
        reaches = reaches;
        reached = λ v c i. k.one.sound v c (settled_has (x.side.label v) c i);
        closest = closest;
        no_walk = λ j e a b w s q p. let h = reaches a b w s p in subst (FirstOk C E district x.side j) e (k.firsts j) b h.0 h.1 q;
      }
