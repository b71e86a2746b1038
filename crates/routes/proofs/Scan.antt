-- One side along one walk from a start: either the side expanded each place of it, or there is a first place that it
-- did not expand, and the label of that place is at most what the walk costs up to it.
use Rattle.std.proofs.Common.{◌≡◌, ℕ, Bool, true, false, ◌⊎◌, sym, refl, ◌∙◌, inl, inr}
use Rattle.routes.specs.Costs.{Costs}
use Rattle.routes.specs.Walks.{Roads, Walk, stay, go}
use Rattle.routes.specs.States.{Label, Blank, Reached, Settled, Side, Has, IsReached, IsSettled, Expanded, Pruned}
use Rattle.routes.specs.Invariants.{Grown}
use Rattle.routes.proofs.Sums

-- a label that is there is reached, or settled and expanded, or pruned
pub which : {K : Type 0} (l : Label K) (b : Bool) (c : K) → Has l c → IsReached l c ⊎ ((IsSettled l c × (b ≡ true)) ⊎ (IsSettled l c × (b ≡ false)))
which Blank b c h = absurd h
which (Reached d o) b c h = inl h
which (Settled d o) true c h = inr (inl (h, refl))
which (Settled d o) false c h = inr (inr (h, refl))

pub settled_has : {K : Type 0} (l : Label K) (c : K) → IsSettled l c → Has l c
settled_has Blank c h = h
settled_has (Reached d o) c h = absurd h
settled_has (Settled d o) c h = h

pub reached_has : {K : Type 0} (l : Label K) (c : K) → IsReached l c → Has l c
reached_has Blank c h = h
reached_has (Reached d o) c h = h
reached_has (Settled d o) c h = absurd h

pub has_one : {K : Type 0} (l : Label K) (c d : K) → Has l c → Has l d → c ≡ d
has_one Blank c d h k = absurd h
has_one (Reached e o) c d h k = sym h ∙ k
has_one (Settled e o) c d h k = sym h ∙ k

module _ (C : Costs) where
  open C use {Cost, ◌≼◌, ◌⊕◌, free, ≼_refl, ≼_trans, ⊕_assoc, free_⊕, ⊕_mono, ⊕_more}

  infix 40 ◌≼◌
  infixl 65 ◌⊕◌
  -- the scan came to a at cost at most p: it is a start, or a road leads to it from an expanded place
  abbrev pub Came : (E : Roads C) (starts : ℕ → Type 0) (σ : Side Cost) (a : ℕ) (p : Cost) → Type 0
  Came E starts σ a p = starts a ⊎ ((u : ℕ) × (c : Cost) × (r : Cost) × Expanded σ u c × E u a r × (c ⊕ r ≼ p))

  -- the first place of the walk to t that is not expanded
  pub record Held (E : Roads C) (starts : ℕ → Type 0) (t : ℕ) (σ : Side Cost) (w : Cost) : Type 0 where
    pub place : ℕ
    pub before : Cost
    pub after : Cost
    pub came : Came E starts σ place before
    pub cost : Cost
    pub has : Has (σ.label place) cost
    pub least : cost ≼ before
    pub unexpanded : IsReached (σ.label place) cost ⊎ Pruned σ place cost
    pub rest : Walk C E place t after
    pub whole : before ⊕ after ≼ w

  pub record Through (E : Roads C) (starts : ℕ → Type 0) (t : ℕ) (σ : Side Cost) (w : Cost) : Type 0 where
    pub cost : Cost
    pub expanded_there : Expanded σ t cost
    pub least : cost ≼ w
    pub came : Came E starts σ t w

  module _ (E : Roads C) (starts : ℕ → Type 0) (σ : Side Cost) (g : Grown C E starts σ) where
    pub labelled : (a : ℕ) (p : Cost) → Came E starts σ a p → (d : Cost) × Has (σ.label a) d × (d ≼ p)
    labelled a p (inl s) = let h = g.begun a s in (h.0, h.1, ≼_trans _ _ _ h.2 (Sums.free_least C p))
    labelled a p (inr (u, c, r, o, e, l)) = let h = g.relaxed u a c r o e in (h.0, h.1, ≼_trans _ _ _ h.2 l)

    -- what holds at a cost holds at a greater one
    came_at : (a : ℕ) (p q : Cost) → p ≼ q → Came E starts σ a p → Came E starts σ a q
    came_at a p q h (inl s) = inl s
    came_at a p q h (inr (u, c, r, o, e, l)) = inr (u, c, r, o, e, ≼_trans _ _ _ l h)

    pub at_most : {t : ℕ} (p q : Cost) → p ≼ q → Through E starts t σ p ⊎ Held E starts t σ p → Through E starts t σ q ⊎ Held E starts t σ q
    at_most {t} p q h (inl k) = inl (record { cost = k.cost; expanded_there = k.expanded_there; least = ≼_trans _ _ _ k.least h; came = came_at t p q h k.came })
    at_most p q h (inr k) = inr (record {
      place = k.place;
      before = k.before;
      after = k.after;
      came = k.came;
      cost = k.cost;
      has = k.has;
      least = k.least;
      unexpanded = k.unexpanded;
      rest = k.rest;
      whole = ≼_trans _ _ _ k.whole h;
    })

    pub scan : {a t : ℕ} {q : Cost} (p : Cost) → Came E starts σ a p → Walk C E a t q → Through E starts t σ (p ⊕ q) ⊎ Held E starts t σ (p ⊕ q)
    scan {a} p m stay =
        let d = labelled a p m in
        elim (which (σ.label a) (σ.expanded a) d.0 d.1) [
          | inl h ↦ inr (held d (inl h))
          | inr (inl o) ↦ inl (record { cost = d.0; expanded_there = o; least = ≼_trans _ _ _ d.2 (⊕_more p free); came = came_at a p _ (⊕_more p free) m })
          | inr (inr h) ↦ inr (held d (inr h))
        ]
      where
        held : (d : (x : Cost) × Has (σ.label a) x × (x ≼ p)) → IsReached (σ.label a) d.0 ⊎ Pruned σ a d.0 → Held E starts a σ (p ⊕ free)
        held d h = record { place = a; before = p; after = free; came = m; cost = d.0; has = d.1; least = d.2; unexpanded = h; rest = stay; whole = ≼_refl _ }
    scan {a} {t} p m (go {b = b} {p = r} {c = c} e w) =
        let d = labelled a p m in
        elim (which (σ.label a) (σ.expanded a) d.0 d.1) [
          | inl h ↦ inr (held d (inl h))
          | inr (inl o) ↦ at_most _ _ (⊕_assoc p r c).0 (scan (p ⊕ r) (inr (a, d.0, r, o, e, ⊕_mono _ _ r d.2)) w)
          | inr (inr h) ↦ inr (held d (inr h))
        ]
      where
        held : (d : (x : Cost) × Has (σ.label a) x × (x ≼ p)) → IsReached (σ.label a) d.0 ⊎ Pruned σ a d.0 → Held E starts t σ (p ⊕ (r ⊕ c))
        held d h = record { place = a; before = p; after = r ⊕ c; came = m; cost = d.0; has = d.1; least = d.2; unexpanded = h; rest = go e w; whole = ≼_refl _ }

    -- from a start
    pub scan₀ : {a t : ℕ} {q : Cost} → starts a → Walk C E a t q → Through E starts t σ q ⊎ Held E starts t σ q
    scan₀ {a} {t} {q} s w = at_most _ _ (free_⊕ q).0 (scan free (inl s) w)
