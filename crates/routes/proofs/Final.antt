-- At the stop: best is the least cost of a walk from s to t, and blocked exactly if there is none.
use Rattle.std.proofs.Common.{ℕ, ◌⊎◌, sym, refl, ◌∙◌, subst, inl, inr, ⊎_elim, arith}
use Rattle.routes.specs.Costs.{Costs, Priced}
use Rattle.routes.specs.Walks.{Roads, Back, Walk, Way, At}
use Rattle.routes.specs.States.{State, Has, IsReached, Expanded, Pruned}
use Rattle.routes.specs.Invariants.{Standing, Stopped, AllPriced, Least}
use Rattle.routes.proofs.Sums
use Rattle.routes.proofs.Ways
use Rattle.routes.proofs.Scan

module _ (C : Costs) where
  open C use {Cost, ◌≼◌, ◌⊕◌, free, blocked, ≼_trans, ≼_total, ≼_blocked, ⊕_assoc, ⊕_comm, ⊕_mono, ⊕_more}

  infix 40 ◌≼◌
  infixl 65 ◌⊕◌
  -- best is at most a sum of few prices that is at most w
  abbrev pub Shown : (best w : Cost) → Type 0
  Shown best w = (m : Cost) × Priced C 4096 m × (best ≼ m) × (m ≼ w)

  module _ (E : Roads C) (s t : ℕ) (x : State Cost) (prices : AllPriced C E) (i : Standing C E s t x) (stop : Stopped C x) where
    -- the price of a label, and of a label and a road
    fore_priced : (u : ℕ) (c : Cost) → Expanded x.fore u c → Priced C 1024 c
    fore_priced u c o = i.fore.priced u c (Scan.settled_has (x.fore.label u) c o.0)

    back_priced : (u : ℕ) (c : Cost) → Expanded x.back u c → Priced C 1024 c
    back_priced u c o = i.back.priced u c (Scan.settled_has (x.back.label u) c o.0)

    none_priced : Priced C 4096 free
    none_priced = Sums.priced_more C 0 4096 free (omega arith) (Sums.priced_free C)

    -- a walk that the forward side expanded to its end
    through : {w : Cost} → Scan.Through C E (At s) t x.fore w → Shown x.best w
    through {w} h = by h.came
      where
        by : Scan.Came C E (At s) x.fore t w → Shown x.best w
        by (inl e) = (free, none_priced, i.met.at_once (sym e), Sums.free_least C w)
        by (inr (u, c, r, o, e, l)) =
            (c ⊕ r, Sums.few₄ C (Sums.few₂ C (fore_priced u c o) (prices u t r e) (omega arith) (omega arith)), i.met.at_goal u c r o e, l)

    -- a walk whose front the forward side expanded, and whose rest the backward side expanded
    joined : {w : Cost} (h : Scan.Held C E (At s) t x.fore w) → Scan.Through C (Back C E) (At t) h.place x.back h.after → Shown x.best w
    joined {w} h b = by h.came b.came
      where
        by : Scan.Came C E (At s) x.fore h.place h.before → Scan.Came C (Back C E) (At t) x.back h.place h.after → Shown x.best w
        by (inl e) (inl f) = (free, none_priced, i.met.at_once (sym e ∙ f), Sums.free_least C w)
        by (inl e) (inr (v, d, r, o, f, l)) = (
          d ⊕ r,
          Sums.few₄ C (Sums.few₂ C (back_priced v d o) (prices h.place v r f) (omega arith) (omega arith)),
          i.met.at_start v d r o (subst (λ y. E y v r) e f),
          ≼_trans _ _ _ l (≼_trans _ _ _ (Sums.more_left C h.before h.after) h.whole),
        )
        by (inr (u, c, r, o, e, l)) _ = (
          (c ⊕ r) ⊕ b.cost,
          Sums.few₃ C (fore_priced u c o) (prices u h.place r e) (back_priced h.place b.cost b.expanded_there) (omega arith) (omega arith) (omega arith),
          i.met.across u h.place c r b.cost o e b.expanded_there,
          ≼_trans _ _ _ (Sums.mono₂ C l b.least) h.whole,
        )

    -- a walk with a place that neither side expanded
    apart : {w : Cost} (h : Scan.Held C E (At s) t x.fore w) → w ≼ x.upper → Scan.Held C (Back C E) (At t) h.place x.back h.after → Shown x.best w
    apart {w} h l b = by h.unexpanded b.unexpanded
      where
        front : h.cost ⊕ h.after ≼ w
        front = ≼_trans _ _ _ (⊕_mono _ _ _ h.least) h.whole

        rear : (b.cost ⊕ b.after) ⊕ h.cost ≼ w
        rear = ≼_trans _ _ _ (⊕_mono _ _ _ (≼_trans _ _ _ (⊕_mono _ _ _ b.least) b.whole)) (≼_trans _ _ _ (⊕_comm h.after h.cost).0 front)

        sum : h.cost ⊕ b.cost ≼ w
        sum = ≼_trans _ _ _ (Sums.mono_left C _ _ h.cost (≼_trans _ _ _ b.least (≼_trans _ _ _ (⊕_more b.before b.after) b.whole))) front

        by : IsReached (x.fore.label h.place) h.cost ⊎ Pruned x.fore h.place h.cost →
            IsReached (x.back.label b.place) b.cost ⊎ Pruned x.back b.place b.cost → Shown x.best w
        by (inr p) _ = absurd (i.cut_fore.dear h.place h.cost h.after p h.rest (≼_trans _ _ _ front l))
        by (inl r) (inr p) =
            let v = Ways.join C (Ways.way C b.rest) (Ways.turned C (Ways.from_one C (i.fore.sound h.place h.cost h.has))) in
            absurd (i.cut_back.dear b.place b.cost v.0 p v.1
            (≼_trans _ _ _ (Sums.mono_left C _ _ b.cost v.2.0) (≼_trans _ _ _ (⊕_assoc b.cost b.after h.cost).1 (≼_trans _ _ _ rear l))))
        by (inl r) (inl q) = (
          h.cost ⊕ b.cost,
          Sums.few₄ C (Sums.few₂ C (i.fore.priced h.place h.cost h.has) (i.back.priced b.place b.cost b.has) (omega arith) (omega arith)),
          stop h.place b.place h.cost b.cost r q,
          sum,
        )

    -- no walk under the upper bound costs less than best
    pub within : {w : Cost} → Walk C E s t w → w ≼ x.upper → Shown x.best w
    within {w} v l =
        ⊎_elim through (λ h. ⊎_elim (joined h) (apart h l) (behind (Ways.turned C (Ways.way C h.rest))))
        (Scan.scan₀ C E (At s) x.fore i.fore refl v)
      where
        behind : {y : ℕ} {q : Cost} → Way C (Back C E) t y q → Scan.Through C (Back C E) (At t) y x.back q ⊎ Scan.Held C (Back C E) (At t) y x.back q
        behind v = Scan.at_most C (Back C E) (At t) x.back i.back _ _ v.2.0 (Scan.scan₀ C (Back C E) (At t) x.back i.back refl v.1)

    -- best is under the upper bound
    under : x.best ≼ x.upper
    under = ⊎_elim (λ h. h) (λ v. let m = within v.1 v.2.0 in ≼_trans _ _ _ m.2 (≼_trans _ _ _ m.3 v.2.0)) i.covered

    lower : (w : Cost) → Walk C E s t w → x.best ≼ w
    lower w v = ⊎_elim (λ l. let m = within v l in ≼_trans _ _ _ m.2 m.3) (λ l. ≼_trans _ _ _ under l) (≼_total w x.upper)

    open_way : (w : Cost) → Walk C E s t w → blocked ≼ x.best → ⊥
    open_way w v e =
        let m = within v (≼_trans w blocked x.upper (≼_blocked w) (≼_trans _ _ _ e under)) in
        Sums.few_open C m.0 m.1 (≼_trans _ _ _ e m.2)

    -- the way through the meeting place
    way : (c d : Cost) → Has (x.fore.label x.meet) c → Has (x.back.label x.meet) d → Way C E s t (c ⊕ d)
    way c d h k = Ways.join C (Ways.from_one C (i.fore.sound x.meet c h)) (Ways.turned C (Ways.from_one C (i.back.sound x.meet d k)))

    pub least : Least C E s t x.best
    least = record {
      lower = lower;
      open_way = open_way;
      no_way = λ h. ⊎_elim (λ e. e) (λ m. let v = way m.0 m.1 m.2 m.3 in absurd (h v.0 v.1)) i.attained;
      route = λ h. ⊎_elim (λ e. absurd (h e)) (λ m. let v = way m.0 m.1 m.2 m.3 in (v.0, v.1, (≼_trans _ _ _ v.2.0 m.4, lower v.0 v.1))) i.attained;
    }
