-- A turn of the forward side keeps the whole invariant.
use Rattle.std.proofs.Common.{◌≡◌, ℕ, ◌<◌, ◌⊎◌, sym, refl, ◌∙◌, subst, subst₂, inl, inr, ⊎_elim}
use mathlib.Core.Option.{none}
use Rattle.routes.specs.Costs.{Costs, Priced}
use Rattle.routes.specs.Walks.{Back, Walk, Way, At}
use Rattle.routes.specs.Worlds.{World, Lawful, Own}
use Rattle.routes.specs.States.{Side, State, Has, IsSettled, Expanded, Pruned}
use Rattle.routes.specs.Invariants.{Cut, Met, Attained, Covered}
use Rattle.routes.specs.Turns.{Settling, TurnPruned, TurnExpanded, Turn}
use Rattle.routes.specs.Kept.{tally, One, Gated, Unpruned, Keeping}
use Rattle.routes.proofs.Scan.{settled_has, reached_has}
use Rattle.routes.proofs.Sums
use Rattle.routes.proofs.Ways
use Rattle.routes.proofs.Settle
use Rattle.routes.proofs.Expand
use Rattle.routes.proofs.Gate
use Rattle.routes.proofs.LowerBound

module _ (C : Costs) (W : World C) (L : Lawful C W) (s t : ℕ) (x x' : State C.Cost)
    (k : Keeping C W.Edge (Own C W s) (Own C W t) W.size s t x) where
  open C use {Cost, ◌≼◌, ◌⊕◌, ≼_refl, ≼_trans, ⊕_mono}

  infix 40 ◌≼◌
  infixl 65 ◌⊕◌
  -- what the turn does before it prunes or expands
  module _ (u : ℕ) (c : Cost) (mid : Side Cost) (low : Cost) (h : Settling C W s t x x' u c mid low) where
    falls : low ≼ x.upper
    falls = ⊎_elim (λ e. Sums.≼_≡ C e) (λ y. y.5) h.shortcut

    -- the upper bound keeps what is kept
    covered_low : Covered C W.Edge s t x.best low
    covered_low = ⊎_elim (λ e. subst (Covered C W.Edge s t x.best) (sym e) k.covered) (λ y. inr (way y.0 y.1 y.2 y.3 y.4)) h.shortcut
      where
        way : (y : ℕ) (d : Cost) → Way C W.Edge u y (W.entry (W.district u) (W.district t)) → IsSettled (x.back.label y) d →
            low ≡ (c ⊕ W.entry (W.district u) (W.district t)) ⊕ d → Way C W.Edge s t low
        way y d w i e =
            subst (Way C W.Edge s t) (sym e)
            (Ways.join C (Ways.join C (Ways.from_one C (k.fore.sound u c (reached_has (x.fore.label u) c (Settle.was_reached C x.fore mid u c h.origin h.settles)))) w)
            (Ways.turned C (Ways.from_one C (k.back.sound y d (settled_has (x.back.label y) d i)))))

    one_mid : One C W.Edge W.size (At s) mid (Settle.rank_after C x.fore mid u c h.origin h.settles k.rank_f)
    one_mid = Settle.one C x.fore mid u c h.origin h.settles W.Edge W.size (At s) k.rank_f k.fore

    gate_mid : Gated C W.Edge (Own C W s) s mid
    gate_mid = Gate.settles C W.Edge W.size s x.fore k.rank_f k.fore L.small (Own C W s) mid u c h.origin h.settles h.gates k.gate_f k.whole_f

    -- what was pruned before
    cut_before : (y : ℕ) (d q upper : Cost) → upper ≼ low → Pruned x.fore y d → Walk C W.Edge y t q → d ⊕ q ≼ upper → ⊥
    cut_before y d q upper l p w m = k.cut_f.dear y d q p w (≼_trans _ _ _ m (≼_trans _ _ _ l falls))

    cut_back : (upper : Cost) → upper ≼ low → Cut C (Back C W.Edge) s x'.back upper
    cut_back upper l =
        subst (λ z. Cut C (Back C W.Edge) s z upper) (sym h.back_same)
        (record { dear = λ y d q p w m. k.cut_b.dear y d q p w (≼_trans _ _ _ m (≼_trans _ _ _ l falls)) })

    back_one : One C (Back C W.Edge) W.size (At t) x'.back k.rank_b
    back_one = subst (λ z. One C (Back C W.Edge) W.size (At t) z k.rank_b) (sym h.back_same) k.back

    back_gate : Gated C (Back C W.Edge) (Own C W t) t x'.back
    back_gate = subst (Gated C (Back C W.Edge) (Own C W t) t) (sym h.back_same) k.gate_b

    back_whole : Unpruned C x'.back
    back_whole = subst (Unpruned C) (sym h.back_same) k.whole_b

    expanded_old : (v : ℕ) (d : Cost) → Expanded mid v d → Expanded x.fore v d
    expanded_old = Settle.expanded_back C x.fore mid u c h.origin h.settles

    pruned_old : (v : ℕ) (d : Cost) → Pruned mid v d → ((v ≡ u) × (c ≡ d)) ⊎ Pruned x.fore v d
    pruned_old = Settle.pruned_back C x.fore mid u c h.origin h.settles

    has_mid : (v : ℕ) (d : Cost) → Has (x.fore.label v) d → Has (mid.label v) d
    has_mid = Settle.has_over C x.fore mid u c h.origin h.settles

    -- a gate that is not known yet was not known before
    no_gate : mid.gate ≡ none → x.fore.gate ≡ none
    no_gate e = ⊎_elim (λ n. n) (λ g. absurd (Gate.none_some mid.gate g.0 e (h.gates.known g.0 g.1))) (Gate.known_or x.fore.gate)

  -- u is pruned
  module _ (T : TurnPruned C W s t x x') where
    pruned_cut : Cut C W.Edge t x'.fore x'.upper
    pruned_cut = record {
      dear = λ y d q p w l. ⊎_elim (λ e. at_u y d q e.0 e.1 w l)
          (λ p₀. cut_before T.u T.c x'.fore x'.upper T.settling y d q x'.upper (≼_refl _) p₀ w l)
          (pruned_old T.u T.c x'.fore x'.upper T.settling y d p);
    }
      where
        has_u : Has (x.fore.label T.u) T.c
        has_u = reached_has (x.fore.label T.u) T.c (Settle.was_reached C x.fore x'.fore T.u T.c T.settling.origin T.settling.settles)

        small_u : Priced C 1024 T.c
        small_u = (Gate.grown C W.Edge W.size (At s) x.fore k.rank_f k.fore L.small).priced T.u T.c has_u

        room_t : t < W.size
        room_t = let b = k.back.begun t refl in k.back.inside t b.0 b.1

        at_u : (y : ℕ) (d q : Cost) → y ≡ T.u → T.c ≡ d → Walk C W.Edge y t q → d ⊕ q ≼ x'.upper → ⊥
        at_u y d q e f w l =
            LowerBound.dear C W L t x.back k.gate_b x'.fore T.u T.c x'.upper q (k.fore.inside T.u T.c has_u) room_t T.prunes small_u
            (subst (λ z. Walk C W.Edge z t q) e w) (subst (λ z. z ⊕ q ≼ x'.upper) (sym f) l)

    pruned_met : Met C W.Edge s t x'.fore x'.back x.best
    pruned_met =
        subst (λ z. Met C W.Edge s t x'.fore z x.best) (sym T.settling.back_same) (record {
          across = λ w v a p d i r j. k.met.across w v a p d (old w a i) r j;
          at_goal = λ w a p i r. k.met.at_goal w a p (old w a i) r;
          at_start = k.met.at_start;
          at_once = k.met.at_once;
        })
      where
        old : (v : ℕ) (d : Cost) → Expanded x'.fore v d → Expanded x.fore v d
        old = expanded_old T.u T.c x'.fore x'.upper T.settling

    pruned_attained : Attained C x'.fore x'.back x.meet x.best
    pruned_attained =
        subst (λ z. Attained C x'.fore z x.meet x.best) (sym T.settling.back_same)
        (⊎_elim inl (λ m. inr (m.0, m.1, has_mid T.u T.c x'.fore x'.upper T.settling x.meet m.0 m.2, m.3, m.4)) k.attained)

    pruned : Keeping C W.Edge (Own C W s) (Own C W t) W.size s t x'
    pruned = record {
      rank_f = Settle.rank_after C x.fore x'.fore T.u T.c T.settling.origin T.settling.settles k.rank_f;
      rank_b = k.rank_b;
      fore = one_mid T.u T.c x'.fore x'.upper T.settling;
      back = back_one T.u T.c x'.fore x'.upper T.settling;
      gate_f = gate_mid T.u T.c x'.fore x'.upper T.settling;
      gate_b = back_gate T.u T.c x'.fore x'.upper T.settling;
      whole_f = λ e z d p. Gate.none_some x'.fore.gate T.prunes.gate e T.prunes.gate_is;
      whole_b = back_whole T.u T.c x'.fore x'.upper T.settling;
      cut_f = pruned_cut;
      cut_b = cut_back T.u T.c x'.fore x'.upper T.settling x'.upper (≼_refl _);
      met = subst (Met C W.Edge s t x'.fore x'.back) (sym T.best_same) pruned_met;
      attained = subst₂ (Attained C x'.fore x'.back) (sym T.meet_same) (sym T.best_same) pruned_attained;
      covered = subst (λ z. Covered C W.Edge s t z x'.upper) (sym T.best_same) (covered_low T.u T.c x'.fore x'.upper T.settling);
    }

  -- u is expanded
  module _ (T : TurnExpanded C W s t x x') where
    abbrev rank : ℕ → ℕ
    rank = Settle.rank_after C x.fore T.mid T.u T.c T.settling.origin T.settling.settles k.rank_f

    mid_one : One C W.Edge W.size (At s) T.mid rank
    mid_one = one_mid T.u T.c T.mid T.low T.settling

    done : IsSettled (T.mid.label T.u) T.c
    done = Settle.is_settled C x.fore T.mid T.u T.c T.settling.origin T.settling.settles

    low_u : (v : ℕ) (d : Cost) → IsSettled (T.mid.label v) d → d ≼ T.c
    low_u = Settle.settled_low C x.fore T.mid T.u T.c T.settling.origin T.settling.settles W.Edge W.size (At s) k.rank_f k.fore

    priced_on : (v : ℕ) (p : Cost) → W.Edge T.u v p → Priced C (tally T.mid.label W.size) (T.c ⊕ p)
    priced_on v p r =
        Settle.priced_on C x.fore T.mid T.u T.c T.settling.origin T.settling.settles W.Edge W.size (At s) k.rank_f k.fore p (L.prices T.u v p r)

    far_inside : (v w : ℕ) (p : Cost) → W.Edge v w p → w < W.size
    far_inside v w p r = (L.inside v w p r).1

    -- a road out of u
    on : (v : ℕ) (p : Cost) → W.Edge T.u v p → (d : Cost) × Has (x'.fore.label v) d × (d ≼ T.c ⊕ p)
    on = Expand.relaxed_u C W.Edge T.mid x'.fore T.u T.c T.expands W.size (At s) rank mid_one done low_u far_inside L.single priced_on

    -- an expanded place is u, or was expanded before
    which : (v : ℕ) (d : Cost) → Expanded x'.fore v d → ((v ≡ T.u) × (T.c ≡ d)) ⊎ Expanded x.fore v d
    which v d i =
        ⊎_elim (λ e. inl (e, Expand.at_u C W.Edge T.mid x'.fore T.u T.c T.expands W.size (At s) rank mid_one done low_u far_inside L.single priced_on v d e i.0))
        (λ o. inr (expanded_old T.u T.c T.mid T.low T.settling v d o)) (Expand.expanded_back C W.Edge T.mid x'.fore T.u T.c T.expands v d i)

    expanded_met : Met C W.Edge s t x'.fore x'.back x'.best
    expanded_met = subst (λ z. Met C W.Edge s t x'.fore z x'.best) (sym T.settling.back_same) (record {
      across = λ w v a p d i r j. ⊎_elim
          (λ e. let o = on v p (subst (λ z. W.Edge z v p) e.0 r) in
          ≼_trans _ _ _ (T.picks.each v p o.0 d (subst (λ z. W.Edge z v p) e.0 r) o.1 (settled_has (x.back.label v) d j.0))
          (⊕_mono _ _ d (subst (λ z. o.0 ≼ z ⊕ p) e.1 o.2)))
          (λ o. ≼_trans _ _ _ T.picks.less (k.met.across w v a p d o r j)) (which w a i);
      at_goal = λ w a p i r. ⊎_elim
          (λ e. let o = on t p (subst (λ z. W.Edge z t p) e.0 r) in
          let b = k.back.begun t refl in
          ≼_trans _ _ _ (T.picks.each t p o.0 b.0 (subst (λ z. W.Edge z t p) e.0 r) o.1 b.1)
          (≼_trans _ _ _ (Sums.mono₂ C (subst (λ z. o.0 ≼ z ⊕ p) e.1 o.2) b.2) (Sums.⊕_free C _).0))
          (λ o. ≼_trans _ _ _ T.picks.less (k.met.at_goal w a p o r)) (which w a i);
      at_start = λ v d p j r. ≼_trans _ _ _ T.picks.less (k.met.at_start v d p j r);
      at_once = λ e. ≼_trans _ _ _ T.picks.less (k.met.at_once e);
    })

    expanded_attained : Attained C x'.fore x'.back x'.meet x'.best
    expanded_attained = subst (λ z. Attained C x'.fore z x'.meet x'.best) (sym T.settling.back_same)
        (⊎_elim (λ e. subst₂ (Attained C x'.fore x.back) (sym e.1) (sym e.0) old) (λ m. inr (m.0, m.1, m.2, m.3, Sums.≼_≡ C m.4)) T.picks.made)
      where
        old : Attained C x'.fore x.back x.meet x.best
        old = ⊎_elim inl
            (λ m. let f = Expand.falls C W.Edge T.mid x'.fore T.u T.c T.expands x.meet m.0 (has_mid T.u T.c T.mid T.low T.settling x.meet m.0 m.2) in
            inr (f.0, m.1, f.1, m.3, ≼_trans _ _ _ (⊕_mono _ _ m.1 f.2) m.4)) k.attained

    expanded_covered : Covered C W.Edge s t x'.best x'.upper
    expanded_covered =
        ⊎_elim (λ e. subst (Covered C W.Edge s t x'.best) (sym e) (⊎_elim (λ l. inl (≼_trans _ _ _ T.picks.less l)) inr (covered_low T.u T.c T.mid T.low T.settling)))
        (λ e. inl (Sums.≼_≡ C (sym e))) T.picks.upper_is

    expanded_whole : Unpruned C x'.fore
    expanded_whole e z d p =
        let e₀ = sym T.expands.gate_same ∙ e in
        let q = Expand.pruned_back C W.Edge T.mid x'.fore T.u T.c T.expands z d p in
        ⊎_elim (λ f. q.0 f.0) (λ p₀. k.whole_f (no_gate T.u T.c T.mid T.low T.settling e₀) z d p₀) (pruned_old T.u T.c T.mid T.low T.settling z d q.1)

    expanded_cut : Cut C W.Edge t x'.fore x'.upper
    expanded_cut = record {
      dear = λ y d q p w l.
          let m = Expand.pruned_back C W.Edge T.mid x'.fore T.u T.c T.expands y d p in
          ⊎_elim (λ f. m.0 f.0) (λ p₀. cut_before T.u T.c T.mid T.low T.settling y d q x'.upper T.picks.falls p₀ w l)
          (pruned_old T.u T.c T.mid T.low T.settling y d m.1);
    }

    expanded : Keeping C W.Edge (Own C W s) (Own C W t) W.size s t x'
    expanded = record {
      rank_f = rank;
      rank_b = k.rank_b;
      fore = Expand.one C W.Edge T.mid x'.fore T.u T.c T.expands W.size (At s) rank mid_one done low_u far_inside L.single priced_on;
      back = back_one T.u T.c T.mid T.low T.settling;
      gate_f = Gate.expands C W.Edge (Own C W s) s T.mid x'.fore T.u T.c T.expands (gate_mid T.u T.c T.mid T.low T.settling);
      gate_b = back_gate T.u T.c T.mid T.low T.settling;
      whole_f = expanded_whole;
      whole_b = back_whole T.u T.c T.mid T.low T.settling;
      cut_f = expanded_cut;
      cut_b = cut_back T.u T.c T.mid T.low T.settling x'.upper T.picks.falls;
      met = expanded_met;
      attained = expanded_attained;
      covered = expanded_covered;
    }

  pub turn : Turn C W s t x x' → Keeping C W.Edge (Own C W s) (Own C W t) W.size s t x'
  turn = ⊎_elim pruned expanded
