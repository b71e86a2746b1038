-- The lower bound: what a walk on from a place costs at least, by the table and the other side's gate.
use Rattle.std.proofs.Common.{◌≡◌, ℕ, ◌<◌, ◌⊎◌, refl, ◌∙◌, subst, inl, inr, ⊎_elim, arith}
use native.Mathlib.Decide.{ℕ_discrete}
use mathlib.Core.Option.{some}
use Rattle.routes.specs.Costs.{Costs, Priced}
use Rattle.routes.specs.Walks.{Back, Walk, stay, go}
use Rattle.routes.specs.Worlds.{World, Lawful, Own}
use Rattle.routes.specs.States.{Side, IsSettled}
use Rattle.routes.specs.Turns.{Prunes}
use Rattle.routes.specs.Kept.{Gated}
use Rattle.routes.proofs.Sums
use Rattle.routes.proofs.Ways

module _ (C : Costs) (W : World C) (L : Lawful C W) where
  open C use {Cost, ◌≼◌, ◌⊕◌, free, ≼_refl, ≼_trans, ⊕_assoc, free_⊕, ⊕_mono}

  infix 40 ◌≼◌
  infixl 65 ◌⊕◌
  -- a walk on the base map that costs no more
  pub stripped : {a b : ℕ} {c : Cost} → Walk C W.Edge a b c → (d : Cost) × Walk C W.Base a b d × (d ≼ c)
  stripped stay = (free, stay, ≼_refl free)
  stripped (go {a} {b} {d} {p} {c} r w) =
      let k = L.base a b p r in
      let l = stripped w in
      (k.0 ⊕ l.0, go k.1 l.1, Sums.mono₂ C k.2 l.2)

  -- where a walk from outside comes into the district of its end
  pub record Entered (a t : ℕ) (q : Cost) : Type 0 where
    pub gate : ℕ
    pub front : Cost
    pub rest : Cost
    pub to_gate : Walk C W.Edge a gate front
    pub from_gate : Walk C W.Edge gate t rest
    pub inside : gate < W.size
    pub own : Own C W t gate
    pub sum : front ⊕ rest ≼ q

  pub entered : {a t : ℕ} {q : Cost} → Walk C W.Edge a t q → (W.district a ≡ W.district t → ⊥) → Entered a t q
  entered stay n = absurd (n refl)
  entered (go {a} {b} {d = t} {p} {c} r w) n = by (ℕ_discrete (W.district b) (W.district t)) (entered w)
    where
      by : Dec (W.district b ≡ W.district t) → ((W.district b ≡ W.district t → ⊥) → Entered b t c) → Entered a t (p ⊕ c)
      by (yes e) _ = record { gate = b; front = p ⊕ free; rest = c; to_gate = go r stay; from_gate = w; inside = (L.inside a b p r).1; own = ((L.crossing a b p r (λ f. n (f ∙ e))).1, e); sum = ⊕_mono _ _ c (Sums.⊕_free C p).0 }
      by (no m) more =
          let k = more m in
          record {
            gate = k.gate;
            front = p ⊕ k.front;
            rest = k.rest;
            to_gate = go r k.to_gate;
            from_gate = k.from_gate;
            inside = k.inside;
            own = k.own;
            sum = ≼_trans _ _ _ (⊕_assoc p k.front k.rest).0 (Sums.mono_left C _ _ p k.sum);
          }

  entry_low : {a b : ℕ} {c : Cost} → a < W.size → b < W.size → Walk C W.Edge a b c → W.entry (W.district a) (W.district b) ≼ c
  entry_low {a} {b} i j w = let l = stripped w in ≼_trans _ _ _ (L.low a b l.0 i j l.1) l.2

  module _ (t : ℕ) (τ : Side Cost) (i : Gated C (Back C W.Edge) (Own C W t) t τ) where
    -- the gate's bound, from the other end
    bound : (g : Cost) → τ.gate ≡ some g → (z : ℕ) → Own C W t z ⊎ ((d : Cost) → IsSettled (τ.label z) d → ⊥) → (q : Cost) → Walk C W.Edge z t q → g ≼ q
    bound g e z m q w = let v = Ways.turned C (Ways.way C w) in ≼_trans _ _ _ (i.bound g e z m v.0 v.1) v.2.0

    -- the lower bound
    pub lower_bound : (x : ℕ) (q g : Cost) → x < W.size → τ.gate ≡ some g → ((d : Cost) → IsSettled (τ.label x) d → ⊥) → Walk C W.Edge x t q →
        W.entry (W.district x) (W.district t) ⊕ g ≼ q
    lower_bound x q g room e n w = by (ℕ_discrete (W.district x) (W.district t))
      where
        by : Dec (W.district x ≡ W.district t) → W.entry (W.district x) (W.district t) ⊕ g ≼ q
        by (yes d) =
            ≼_trans _ _ _ (Sums.mono₂ C (subst (λ z. W.entry (W.district x) z ≼ free) d (entry_low room room stay)) (bound g e x (inr n) q w)) (free_⊕ q).0
        by (no m) =
            let k = entered w m in
            ≼_trans _ _ _
            (Sums.mono₂ C (subst (λ z. W.entry (W.district x) z ≼ k.front) k.own.1 (entry_low room k.inside k.to_gate))
            (bound g e k.gate (inl k.own) k.rest k.from_gate)) k.sum

    -- what is pruned lies on no walk as cheap as the upper bound
    pub dear : (σ : Side Cost) (x : ℕ) (c upper q : Cost) → x < W.size → t < W.size → Prunes C (W.entry (W.district x) (W.district t)) σ τ x c upper →
        Priced C 1024 c → Walk C W.Edge x t q → c ⊕ q ≼ upper → ⊥
    dear σ x c upper q room_x room_t p k w l =
        ⊎_elim (λ e. ⊎_elim (λ b. L.none x t (stripped w).0 room_x room_t (stripped w).1 b)
        (λ m. Sums.few_open C _ (Sums.few₃ C k m (i.few_prices p.other p.other_is) (omega arith) (omega arith) (omega arith)) e) (L.listed x t room_x room_t))
        (λ n. n (≼_trans _ _ _ (⊕_assoc _ _ _).0 (≼_trans _ _ _ (Sums.mono_left C _ _ c (lower_bound x q p.other room_x p.other_is p.unsettled w)) l))) p.dear
