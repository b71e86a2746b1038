-- The beginning has the invariant.
use Rattle.std.proofs.Common.{◌≡◌, ℕ, ◌<◌, ◌⊎◌, sym, refl, ◌∙◌, subst, inl, inr, ⊎_elim, arith}
use native.Mathlib.Decide.{ℕ_discrete}
use Rattle.routes.specs.Costs.{Costs, Priced}
use Rattle.routes.specs.Walks.{Roads, Back, stay, At}
use Rattle.routes.specs.States.{Origin, Start, From, Blank, Side, State, Has, IsSettled, Expanded, Pruned}
use Rattle.routes.specs.Routes.{Holds}
use Rattle.routes.specs.Invariants.{Attained, Covered}
use Rattle.routes.specs.Kept.{One, Gated, Keeping}
use Rattle.routes.specs.Runs.{Sets, Begins}
use Rattle.routes.proofs.Sums
use Rattle.routes.proofs.Ways
use Rattle.routes.proofs.Gate
use Rattle.routes.proofs.Expand

module _ (C : Costs) where
  open C use {Cost, ◌≼◌, ◌⊕◌, free, ≼_refl, ≼_trans, free_⊕}

  infix 40 ◌≼◌
  infixl 65 ◌⊕◌
  module _ (E : Roads C) (size : ℕ) (starts : ℕ → Type 0) (σ : Side Cost) (h : Sets C starts σ)
      (which : (v : ℕ) → starts v ⊎ (starts v → ⊥)) (room : (v : ℕ) → starts v → v < size) where
    only : (v : ℕ) → starts v ⊎ (σ.label v ≡ Blank)
    only v = ⊎_elim inl (λ n. inr (h.blank v n)) (which v)

    has : (v : ℕ) (c : Cost) → Has (σ.label v) c → starts v × (free ≡ c)
    has v c k = ⊎_elim (λ e. (e, subst (λ l. Has l c) (h.start v e) k)) (λ e. absurd (subst (λ l. Has l c) e k)) (only v)

    holds : (v : ℕ) (c : Cost) (o : Origin) → Holds (σ.label v) c o → starts v × (free ≡ c) × (Start ≡ o)
    holds v c o k =
        ⊎_elim (λ e. let f = subst (λ l. Holds l c o) (h.start v e) k in (e, f.0, f.1)) (λ e. absurd (subst (λ l. Holds l c o) e k)) (only v)

    pub unsettled : (v : ℕ) (c : Cost) → IsSettled (σ.label v) c → ⊥
    unsettled v c k = ⊎_elim (λ e. subst (λ l. IsSettled l c) (h.start v e) k) (λ e. subst (λ l. IsSettled l c) e k) (only v)

    pub begun : (a : ℕ) → starts a → Has (σ.label a) free
    begun a e = subst (λ l. Has l free) (sym (h.start a e)) refl

    pub one : One C E size starts σ (λ _. 0)
    one = record {
      sound = λ v c k. let f = has v c k in (v, f.0, Ways.over C (Sums.same_≡ C f.1) (Ways.way C stay));
      counted = λ v c k. subst (Priced C _) (has v c k).1 (Sums.priced_more C 0 _ free (omega arith) (Sums.priced_free C));
      inside = λ v c k. room v (has v c k).0;
      ordered = λ u v c d i j. absurd (unsettled u c i);
      relaxed = λ u v c p o r. absurd (unsettled u c o.0);
      begun = λ a e. (free, begun a e, ≼_refl free);
      root = λ v c k. let f = holds v c Start k in (f.0, sym f.1);
      from = λ v u c k. absurd (Expand.start_from u (sym (holds v c (From u) k).2));
      later = λ u v c i n. absurd (unsettled u c i);
      ranked = λ v. omega arith;
    }

    pub gated : (own : ℕ → Type 0) (s : ℕ) → Gated C E own s σ
    gated own s = record {
      unmet = λ e z c m i. unsettled z c i;
      few_prices = λ g e. absurd (Gate.none_some σ.gate g h.no_gate e);
      bound = λ g e z m q w. absurd (Gate.none_some σ.gate g h.no_gate e);
    }

    pub pruned : (z : ℕ) (c : Cost) → Pruned σ z c → ⊥
    pruned z c p = unsettled z c p.0

    pub expanded : (z : ℕ) (c : Cost) → Expanded σ z c → ⊥
    expanded z c p = unsettled z c p.0

  -- the one start of a question
  is_at : (s v : ℕ) → At s v ⊎ (At s v → ⊥)
  is_at s v = by (ℕ_discrete v s)
    where
      by : Dec (v ≡ s) → At s v ⊎ (At s v → ⊥)
      by (yes e) = inl e
      by (no n) = inr n

  at_room : (size s : ℕ) → s < size → (v : ℕ) → At s v → v < size
  at_room size s l v e = subst (λ z. z < size) (sym e) l

  module _ (E : Roads C) (own_s own_t : ℕ → Type 0) (size s t : ℕ) (x : State Cost) (h : Begins C s t x) (room_s : s < size) (room_t : t < size) where
    at_once : s ≡ t → x.best ≼ free
    at_once e = ⊎_elim (λ b. Sums.≼_≡ C b.1) (λ b. absurd (b.0 e)) h.costs

    attained : Attained C x.fore x.back x.meet x.best
    attained = ⊎_elim (λ b. inr (met b.0 b.1 b.3)) (λ b. inl (Sums.≼_≡ C (sym b.1))) h.costs
      where
        met : s ≡ t → x.best ≡ free → x.meet ≡ s → (c : Cost) × (d : Cost) × Has (x.fore.label x.meet) c × Has (x.back.label x.meet) d × (c ⊕ d ≼ x.best)
        met e b m = (
          free,
          free,
          subst (λ z. Has (x.fore.label z) free) (sym m) (begun E size (At s) x.fore h.fore (is_at s) (at_room size s room_s) s refl),
          subst (λ z. Has (x.back.label z) free) (sym (m ∙ e)) (begun E size (At t) x.back h.back (is_at t) (at_room size t room_t) t refl),
          ≼_trans _ _ _ (free_⊕ free).0 (Sums.≼_≡ C (sym b)),
        )

    covered : Covered C E s t x.best x.upper
    covered = inl (⊎_elim (λ b. Sums.≼_≡ C (b.1 ∙ sym b.2)) (λ b. Sums.≼_≡ C (b.1 ∙ sym b.2)) h.costs)

    pub keeping : Keeping C E own_s own_t size s t x
    keeping = record {
      rank_f = λ _. 0;
      rank_b = λ _. 0;
      fore = one E size (At s) x.fore h.fore (is_at s) (at_room size s room_s);
      back = one (Back C E) size (At t) x.back h.back (is_at t) (at_room size t room_t);
      gate_f = gated E size (At s) x.fore h.fore (is_at s) (at_room size s room_s) own_s s;
      gate_b = gated (Back C E) size (At t) x.back h.back (is_at t) (at_room size t room_t) own_t t;
      whole_f = λ e. pruned E size (At s) x.fore h.fore (is_at s) (at_room size s room_s);
      whole_b = λ e. pruned E size (At t) x.back h.back (is_at t) (at_room size t room_t);
      cut_f = record { dear = λ y c q p w l. pruned E size (At s) x.fore h.fore (is_at s) (at_room size s room_s) y c p };
      cut_b = record { dear = λ y c q p w l. pruned E size (At t) x.back h.back (is_at t) (at_room size t room_t) y c p };
      met = record {
        across = λ u v c p d i r j. absurd (expanded E size (At s) x.fore h.fore (is_at s) (at_room size s room_s) u c i);
        at_goal = λ u c p i r. absurd (expanded E size (At s) x.fore h.fore (is_at s) (at_room size s room_s) u c i);
        at_start = λ v d p j r. absurd (expanded E size (At t) x.back h.back (is_at t) (at_room size t room_t) v d j);
        at_once = at_once;
      };
      attained = attained;
      covered = covered;
    }
