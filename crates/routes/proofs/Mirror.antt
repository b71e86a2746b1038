-- The other side: the mirrored world is lawful, and the invariant of a swapped state is that of the state.
use Rattle.std.proofs.Common.{ℕ, sym, inl, inr, ⊎_elim}
use Rattle.routes.specs.Costs.{Costs}
use Rattle.routes.specs.Walks.{Roads, Back}
use Rattle.routes.specs.Worlds.{World, Lawful, mirror}
use Rattle.routes.specs.States.{State, swap}
use Rattle.routes.specs.Kept.{Keeping}
use Rattle.routes.proofs.Sums
use Rattle.routes.proofs.Ways

module _ (C : Costs) where
  open C use {Cost, ◌≼◌, ◌⊕◌, ≼_trans, ⊕_assoc, ⊕_comm}

  infix 40 ◌≼◌
  infixl 65 ◌⊕◌
  pub lawful : (W : World C) → Lawful C W → Lawful C (mirror C W)
  lawful W L = record {
    small = L.small;
    inside = λ u v p r. ((L.inside v u p r).1, (L.inside v u p r).0);
    prices = λ u v p r. L.prices v u p r;
    single = λ u v p q r r'. L.single v u p q r r';
    base = λ u v p r. L.base v u p r;
    crossing = λ u v p r n. let b = L.crossing v u p r (λ e. n (sym e)) in (b.1, b.0);
    low = λ a b c i j w. let v = Ways.turned C (Ways.way C w) in ≼_trans _ _ _ (L.low b a v.0 j i v.1) v.2.0;
    none = λ a b c i j w. let v = Ways.turned C (Ways.way C w) in L.none b a v.0 j i v.1;
    listed = λ a b i j. L.listed b a j i;
  }

  around : (a p d : Cost) → (a ⊕ p) ⊕ d ≼ (d ⊕ p) ⊕ a
  around a p d = ≼_trans _ _ _ (⊕_comm (a ⊕ p) d).0 (≼_trans _ _ _ (Sums.mono_left C _ _ d (⊕_comm a p).0) (⊕_assoc d p a).1)

  pub keeping : (E : Roads C) (own_s own_t : ℕ → Type 0) (size s t : ℕ) (x : State Cost) → Keeping C E own_s own_t size s t x → Keeping C (Back C E) own_t own_s size t s (swap x)
  keeping E own_s own_t size s t x k = record {
    rank_f = k.rank_b;
    rank_b = k.rank_f;
    fore = k.back;
    back = k.fore;
    gate_f = k.gate_b;
    gate_b = k.gate_f;
    whole_f = k.whole_b;
    whole_b = k.whole_f;
    cut_f = k.cut_b;
    cut_b = k.cut_f;
    met = record {
      across = λ u v c p d i r j. ≼_trans _ _ _ (k.met.across v u d p c j r i) (around d p c);
      at_goal = k.met.at_start;
      at_start = k.met.at_goal;
      at_once = λ e. k.met.at_once (sym e);
    };
    attained = ⊎_elim inl (λ m. inr (m.1, m.0, m.3, m.2, ≼_trans _ _ _ (⊕_comm m.1 m.0).0 m.4)) k.attained;
    covered = ⊎_elim inl (λ w. inr (Ways.turned C w)) k.covered;
  }
