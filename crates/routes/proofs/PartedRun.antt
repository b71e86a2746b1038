-- Every state that a search comes to keeps its two sides apart, whatever the table holds.
use Rattle.std.proofs.Common.{◌≡◌, ℕ, zero, suc, ◌+◌, ◌<◌, Bool, true, false, eqb, ◌⊎◌, get_or, replicate, sym, refl, ap, ◌∙◌, subst, inl, inr, ⊎_elim, zero-add, arith, length-set, eqb-true}
use native.Mathlib.Decide.{ℕ_discrete}
use mathlib.Core.Option.{Option, some, none}
use borrow.Author.Tests.{eqb-false}
use Rattle.std.proofs.lemmas.Bool.{cases_lt}
use Rattle.std.proofs.lemmas.List.{get_or-set_same, get_or-set_other, get_or_past, get_or-replicate, length-replicate}
use Rattle.routes.specs.Costs.{Costs}
use Rattle.routes.specs.Walks.{Roads, Back, At}
use Rattle.routes.specs.States.{Label, Blank, Reached, Side, Has, IsReached, IsSettled}
use Rattle.routes.specs.Turns.{Settles, Relaxes, Leaves, Expands}
use Rattle.routes.specs.Invariants.{Attained}
use Rattle.routes.specs.Kept.{tally}
use Rattle.routes.specs.Runs.{Sets}
use Rattle.routes.specs.Scales.{Scale, ops}
use Rattle.routes.specs.Search.{Given, Half, Both, Found, label_at, side, settle, flip, other}
use Rattle.routes.specs.Search
use Rattle.routes.specs.Asked.{Road, Sized, Fit}
use Rattle.routes.proofs.Sums
use Rattle.routes.proofs.Tally
use Rattle.routes.proofs.Settle
use Rattle.routes.proofs.Expand
use Rattle.routes.proofs.Begin
use Rattle.routes.proofs.Parts
use Rattle.routes.proofs.Step
use Rattle.routes.proofs.RunParts.{step_turns, run_stop, run_step}
use Rattle.routes.proofs.Gate.{none_some, some_one}
use Rattle.routes.proofs.Apart.{Fair, fair_other, Parted}
use Rattle.routes.proofs.Apart

module _ (C : Costs) where
  open C use {Cost, ◌≼◌, ◌⊕◌, free, blocked, ≼_refl, ≼_trans, free_⊕}

  infix 40 ◌≼◌
  infixl 65 ◌⊕◌
  -- How many places below n the two sides have settled.
  abbrev pub settled : ℕ → Both Cost → ℕ
  settled n x = tally (label_at x.fore.labels) n + tally (label_at x.back.labels) n

  -- What every state of a search keeps.
  pub record Keeps (E : Roads C) (n s t : ℕ) (x : Both Cost) : Type 0 where
    pub fit : Fit n x
    pub parted : Parted C E n s t (side x.fore) (side x.back) x.meet x.best
    -- each turn settled one place
    pub counted : x.expansions + x.prunings ≡ settled n x

  -- It is the same seen from the other side.
  pub keeps_other : (E : Roads C) (n s t : ℕ) (x : Both Cost) → Keeps E n s t x → Keeps (Back C E) n t s (other x)
  keeps_other E n s t x k = record {
    fit = record { fore = k.fit.back; back = k.fit.fore };
    parted = Apart.parted_other C E n s t (side x.fore) (side x.back) x.meet x.best k.parted;
    counted = omega (arith, k.counted);
  }

  module _ (S : Scale C) where
    open S use {leq, leq_true, leq_false}

    -- The search goes on with the nearest place of the side, and best is not at most the sum of the two nearest.
    pub record Goes (x : Both Cost) (f : Found Cost) : Type 0 where
      pub mine : Parts.Nearest C S 0 x.fore.labels f
      pub other_found : Found Cost
      pub theirs : Parts.Nearest C S 0 x.back.labels other_found
      pub goes : x.best ≼ f.cost ⊕ other_found.cost → ⊥

    -- So it does where there is a next place.
    pub next_goes : (x : Both Cost) (f : Found Cost) → Search.next (ops C S) x ≡ some f → Goes x f
    next_goes x f = by (Search.nearest (ops C S) 0 x.fore.labels) (Search.nearest (ops C S) 0 x.back.labels)
        (Parts.nearest_ok C S 0 x.fore.labels) (Parts.nearest_ok C S 0 x.back.labels)
      where
        by : (a b : Option (Found Cost)) → Parts.NearestOk C S 0 x.fore.labels a → Parts.NearestOk C S 0 x.back.labels b →
            Search.going (ops C S) a b x.best ≡ some f → Goes x f
        by none b h k e = absurd (none_some {K = Found Cost} none f refl e)
        by (some a) none h k e = absurd (none_some {K = Found Cost} none f refl e)
        by (some a) (some b) h k e = at (leq x.best (a.cost ⊕ b.cost)) refl e
          where
            at : (c : Bool) → leq x.best (a.cost ⊕ b.cost) ≡ c → ◌≡◌ {A = Option (Found Cost)} (elim c [ true ↦ none | false ↦ some a ]) (some f) → Goes x f
            at true q e = absurd (none_some {K = Found Cost} none f refl e)
            at false q e = subst (Goes x) (some_one {K = Found Cost} (some a) a f refl e) (record { mine = h; other_found = b; theirs = k; goes = leq_false _ _ q })

    module _ (G : Given Cost) (R : Fair C G) (s t : ℕ) (x : Both Cost) (k : Keeps (Road C G) G.size s t x) (f : Found Cost) (g : Goes x f) where
      place_is : f.place ≡ g.mine.at
      place_is = g.mine.place_is ∙ zero-add g.mine.at

      in_range : f.place < G.size
      in_range = omega (arith, place_is, g.mine.in_range, k.fit.fore.labels)

      abbrev mid : Half Cost
      mid = settle G s x.fore f

      settles : Settles C (side x.fore) (side mid) f.place f.cost f.origin
      settles = record {
        was = subst (λ z. label_at x.fore.labels z ≡ Reached f.cost f.origin) (sym place_is) g.mine.label_is;
        is = get_or-set_same x.fore.labels f.place _ Blank (omega (arith, in_range, k.fit.fore.labels));
        least = g.mine.least;
        others = λ v n. get_or-set_other x.fore.labels f.place v _ Blank n;
        unexpanded = get_or-set_same x.fore.expands f.place false false (omega (arith, in_range, k.fit.fore.expands));
        same = λ v n. get_or-set_other x.fore.expands f.place v false false n;
      }

      mid_sized : Sized G.size mid
      mid_sized = record { labels = length-set _ _ _ ∙ k.fit.fore.labels; expands = length-set _ _ _ ∙ k.fit.fore.expands }

      abbrev after : Half Cost
      after = Search.expanded (ops C S) G mid f

      after_sized : Sized G.size after
      after_sized = record { labels = Parts.relax_length C S _ _ _ 0 mid.labels ∙ mid_sized.labels; expands = length-set _ _ _ ∙ mid_sized.expands }

      expands : Expands C (Road C G) (side mid) (side after) f.place f.cost
      expands = record { labels = labels; expanded_now = get_or-set_same mid.expands f.place true false (omega (arith, in_range, mid_sized.expands)); same = λ v n. get_or-set_other mid.expands f.place v true false n; gate_same = refl }
        where
          labels : (v : ℕ) → Leaves C (Road C G) (side mid) (side after) f.place f.cost v ⊎ ((p : Cost) × Relaxes C (Road C G) (side mid) (side after) f.place f.cost v p)
          labels v = ⊎_elim
              (λ l. Step.relax_cases C S (Road C G) (side mid) (side after) f.place f.cost v
              (G.price f.place v) (λ p e. e) (λ p e. e) (label_at mid.labels v) refl
              (Parts.relax_at C S (G.price f.place) f.place f.cost 0 mid.labels v (omega (arith, l, mid_sized.labels))
              ∙ ap (λ z. Search.relaxed (ops C S) (G.price f.place z) f.place f.cost (label_at mid.labels v)) (zero-add v)))
              (λ l. inl (record {
                fits = λ p r. absurd (omega (arith, l, (R.inside f.place v p r).1));
                is = get_or_past _ v Blank (omega (arith, l, mid_sized.labels, Parts.relax_length C S (G.price f.place) f.place f.cost 0 mid.labels))
                    ∙ sym (get_or_past mid.labels v Blank (omega (arith, l, mid_sized.labels)));
              }))
              (cases_lt v G.size)

      -- the side once it has settled the place
      theirs_reached : IsReached (label_at x.back.labels g.theirs.at) g.other_found.cost
      theirs_reached = subst (λ z. IsReached z g.other_found.cost) (sym g.theirs.label_is) refl

      mid_parted : Parted C (Road C G) G.size s t (side mid) (side x.back) x.meet x.best
      mid_parted =
          Apart.settled C (Road C G) G.size s t (side x.fore) (side x.back) x.meet x.best k.parted (side mid) f.place f.cost f.origin settles
          g.theirs.at g.other_found.cost theirs_reached g.goes

      mid_tally : tally (label_at mid.labels) G.size ≡ suc (tally (label_at x.fore.labels) G.size)
      mid_tally = Settle.count C (side x.fore) (side mid) f.place f.cost f.origin settles (Road C G) G.size (At s) k.parted.rank_f k.parted.fore

      after_tally : tally (label_at after.labels) G.size ≡ suc (tally (label_at x.fore.labels) G.size)
      after_tally = Expand.same_count C (Road C G) (side mid) (side after) f.place f.cost expands G.size ∙ mid_tally

      after_parted : (meet' : ℕ) (best' : Cost) → best' ≼ x.best →
          ((v : ℕ) (p a b : Cost) → G.price f.place v ≡ some p → Has (label_at after.labels v) a → Has (label_at x.back.labels v) b → best' ≼ a ⊕ b) →
          ((best' ≡ x.best) × (meet' ≡ x.meet)) ⊎ ((a : Cost) × (b : Cost) × Has (label_at after.labels meet') a × Has (label_at x.back.labels meet') b × (a ⊕ b ≡ best')) →
          Parted C (Road C G) G.size s t (side after) (side x.back) meet' best'
      after_parted =
          Apart.expanded C (Road C G) G.size s t (side x.fore) (side x.back) x.meet x.best k.parted (side mid) f.place f.cost f.origin settles (side after) expands
          (λ v w p r. (R.inside v w p r).1) (λ v w p q r r'. some_one (G.price v w) p q r r') R.prices mid_parted

      -- what a state keeps, without its counts
      abbrev HalfKept : Both Cost → Type 0
      HalfKept y =
          Fit G.size y × Parted C (Road C G) G.size s t (side y.fore) (side y.back) y.meet y.best
          × (settled G.size y ≡ suc (settled G.size x))

      at_place : (v : ℕ) (p : Cost) → G.price f.place v ≡ some p → G.price f.place (0 + v) ≡ some p
      at_place v p e = subst (λ z. G.price f.place z ≡ some p) (sym (zero-add v)) e

      abbrev low : Cost
      low = Search.low_after (ops C S) G t x f

      -- best stays
      kept : ((v : ℕ) (p a b : Cost) → G.price f.place v ≡ some p → Has (label_at after.labels v) a → Has (label_at x.back.labels v) b → x.best ≼ a ⊕ b) →
          HalfKept (record { fore = after; back = x.back; best = x.best; upper = low; meet = x.meet; expansions = suc x.expansions; prunings = x.prunings })
      kept h = (record { fore = after_sized; back = k.fit.back }, after_parted x.meet x.best (≼_refl _) h (inl (refl, refl)), omega (arith, after_tally))

      taken_kept : (o : Option (Found Cost)) → Parts.SumOk C S (G.price f.place) 0 after.labels x.back.labels o → HalfKept (Search.taken (ops C S) o after x low)
      taken_kept none h = kept (λ v p a b e i j. absurd (h v p a b (at_place v p e) i j))
      taken_kept (some q) h = by (leq x.best q.cost) refl
        where
          here : q.place ≡ h.at
          here = h.place_is ∙ zero-add h.at

          by : (b : Bool) → leq x.best q.cost ≡ b → HalfKept (elim b [
            | true ↦ record { fore = after; back = x.back; best = x.best; upper = low; meet = x.meet; expansions = suc x.expansions; prunings = x.prunings }
            | false ↦ record { fore = after; back = x.back; best = q.cost; upper = Search.least_of (ops C S) low q.cost; meet = q.place; expansions = suc x.expansions; prunings = x.prunings }
          ])
          by true e = kept (λ v p a b r i j. ≼_trans _ _ _ (leq_true _ _ e) (h.least v p a b (at_place v p r) i j))
          by false e = (
            record { fore = after_sized; back = k.fit.back },
            after_parted q.place q.cost (Parts.leq_over C S _ _ e) (λ v p a b r i j. h.least v p a b (at_place v p r) i j)
                (inr (h.mine, h.theirs, subst (λ z. Has (label_at after.labels z) h.mine) (sym here) h.has_mine, subst (λ z. Has (label_at x.back.labels z) h.theirs) (sym here) h.has_theirs, h.cost_is)),
            omega (arith, after_tally),
          )

      step_half : HalfKept (Search.step (ops C S) G s t x f)
      step_half =
          by (Search.too_dear (ops C S) mid.gate x.back.gate (label_at x.back.labels f.place) (f.cost ⊕ G.entry (G.district f.place) (G.district t)) low)
        where
          by : (b : Bool) → HalfKept (elim b [
            | true ↦ record { fore = mid; back = x.back; best = x.best; upper = low; meet = x.meet; expansions = x.expansions; prunings = suc x.prunings }
            | false ↦ Search.taken (ops C S) (Search.sums (ops C S) (G.price f.place) 0 after.labels x.back.labels) after x low
          ])
          by true = (record { fore = mid_sized; back = k.fit.back }, mid_parted, omega (arith, mid_tally))
          by false = taken_kept (Search.sums (ops C S) (G.price f.place) 0 after.labels x.back.labels) (Parts.sums_ok C S (G.price f.place) 0 after.labels x.back.labels)

      -- A turn keeps it.
      pub step_keeps : Keeps (Road C G) G.size s t (Search.step (ops C S) G s t x f)
      step_keeps = record { fit = step_half.0; parted = step_half.1; counted = step_turns (ops C S) G s t x f ∙ ap suc k.counted ∙ sym step_half.2 }

    -- So does a run.
    pub run_keeps : (m : ℕ) (G : Given Cost) → Fair C G → (s t : ℕ) (x : Both Cost) → Keeps (Road C G) G.size s t x → Keeps (Road C G) G.size s t (Search.run (ops C S) m G s t x)
    run_keeps zero G R s t x k = k
    run_keeps (suc m) G R s t x k =
        by (λ y h. run_keeps m (flip G) (fair_other C G R) t s y h) (Search.next (ops C S) x) refl
      where
        by : ((y : Both Cost) → Keeps (Back C (Road C G)) G.size t s y → Keeps (Back C (Road C G)) G.size t s (Search.run (ops C S) m (flip G) t s y)) →
            (o : Option (Found Cost)) → Search.next (ops C S) x ≡ o → Keeps (Road C G) G.size s t (Search.run (ops C S) (suc m) G s t x)
        by more none e = subst (Keeps (Road C G) G.size s t) (sym (run_stop (ops C S) (suc m) G s t x e)) k
        by more (some f) e =
            subst (Keeps (Road C G) G.size s t) (sym (run_step (ops C S) m G s t x f e))
            (keeps_other (Back C (Road C G)) G.size t s (Search.run (ops C S) m (flip G) t s (other (Search.step (ops C S) G s t x f)))
            (more (other (Search.step (ops C S) G s t x f)) (keeps_other (Road C G) G.size s t (Search.step (ops C S) G s t x f) (step_keeps G R s t x k f (next_goes x f e)))))

    -- the beginning
    half_sets : (n s : ℕ) → s < n → Sets C (At s) (side (Search.half (ops C S) n s))
    half_sets n s l = record {
      start = λ v e. ap (label_at (Search.half (ops C S) n s).labels) e ∙ get_or-set_same (replicate n Blank) s _ Blank (omega (arith, l, length-replicate {A = Label Cost} n Blank));
      blank = λ v m. get_or-set_other (replicate n Blank) s v _ Blank m ∙ blank v;
      no_gate = refl;
    }
      where
        blank : (v : ℕ) → get_or {A = Label Cost} (replicate n Blank) v Blank ≡ Blank
        blank v = ⊎_elim (λ h. get_or-replicate n v Blank Blank h) (λ h. get_or_past (replicate n Blank) v Blank (omega (arith, h, length-replicate {A = Label Cost} n Blank))) (cases_lt v n)

    half_sized : (n s : ℕ) → Sized n (Search.half (ops C S) n s)
    half_sized n s = record { labels = length-set _ _ _ ∙ length-replicate n Blank; expands = length-replicate n false }

    is_at : (s v : ℕ) → At s v ⊎ (At s v → ⊥)
    is_at s v = by (ℕ_discrete v s)
      where
        by : Dec (v ≡ s) → At s v ⊎ (At s v → ⊥)
        by (yes e) = inl e
        by (no n) = inr n

    at_room : (n s : ℕ) → s < n → (v : ℕ) → At s v → v < n
    at_room n s l v e = subst (λ z. z < n) (sym e) l

    -- a side that begins has labelled its start alone
    alone : (s : ℕ) (σ : Side Cost) → Sets C (At s) σ → (v : ℕ) (c : Cost) → Has (σ.label v) c → (v ≡ s) × (free ≡ c)
    alone s σ h v c k = ⊎_elim (λ e. (e, subst (λ l. Has l c) (h.start v e) k)) (λ e. absurd (subst (λ l. Has l c) (h.blank v e) k)) (is_at s v)

    none_settled : (s : ℕ) (σ : Side Cost) → Sets C (At s) σ → (v : ℕ) (c : Cost) → IsSettled (σ.label v) c → ⊥
    none_settled s σ h v c k = ⊎_elim (λ e. subst (λ l. IsSettled l c) (h.start v e) k) (λ e. subst (λ l. IsSettled l c) (h.blank v e) k) (is_at s v)

    no_tally : (f : ℕ → Label Cost) (n : ℕ) → ((v : ℕ) (c : Cost) → IsSettled (f v) c → ⊥) → tally f n ≡ 0
    no_tally f zero h = refl
    no_tally f (suc n) h = omega (arith, no_tally f n h, Tally.weight_none (f n) (h n))

    module _ (E : Roads C) (n s t : ℕ) (ls : s < n) (lt : t < n) where
      fore_sets : Sets C (At s) (side (Search.half (ops C S) n s))
      fore_sets = half_sets n s ls

      back_sets : Sets C (At t) (side (Search.half (ops C S) n t))
      back_sets = half_sets n t lt

      abbrev start_cost : Bool → Cost
      start_cost b = elim b [ true ↦ free | false ↦ blocked ]

      begins : (b : Bool) → eqb s t ≡ b → Parted C E n s t (side (Search.half (ops C S) n s)) (side (Search.half (ops C S) n t)) s (start_cost b)
      begins b e = record {
        rank_f = λ _. 0;
        rank_b = λ _. 0;
        fore = Begin.one C E n (At s) (side (Search.half (ops C S) n s)) fore_sets (is_at s) (at_room n s ls);
        back = Begin.one C (Back C E) n (At t) (side (Search.half (ops C S) n t)) back_sets (is_at t) (at_room n t lt);
        below = λ v c d i j. below b e (sym (alone s _ fore_sets v c i).0 ∙ (alone t _ back_sets v d j).0) (c ⊕ d);
        apart = λ v c d i j. none_settled s _ fore_sets v c i;
        attained = attained b e;
      }
        where
          below : (b : Bool) → eqb s t ≡ b → s ≡ t → (z : Cost) → start_cost b ≼ z
          below true e q z = Sums.free_least C z
          below false e q z = absurd (eqb-false s t e q)

          attained : (b : Bool) → eqb s t ≡ b → Attained C (side (Search.half (ops C S) n s)) (side (Search.half (ops C S) n t)) s (start_cost b)
          attained true e = inr (
            free,
            free,
            subst (λ l. Has l free) (sym (fore_sets.start s refl)) refl,
            subst (λ l. Has l free) (sym (back_sets.start s (eqb-true s t e))) refl,
            (free_⊕ free).0,
          )
          attained false e = inl (≼_refl blocked)

      -- The beginning has it.
      pub first_keeps : Keeps E n s t (Search.first (ops C S) n s t)
      first_keeps = record {
        fit = record { fore = half_sized n s; back = half_sized n t };
        parted = begins (eqb s t) refl;
        counted = omega (arith, no_tally (label_at (Search.half (ops C S) n s).labels) n (none_settled s _ fore_sets), no_tally (label_at (Search.half (ops C S) n t).labels) n (none_settled t _ back_sets));
      }

    -- What the last state of a search keeps.
    pub search_keeps : (G : Given Cost) → Fair C G → (s t : ℕ) → s < G.size → t < G.size → Keeps (Road C G) G.size s t (Search.search_best (ops C S) G s t)
    search_keeps G R s t ls lt = run_keeps (G.size + G.size) G R s t (Search.first (ops C S) G.size s t) (first_keeps (Road C G) G.size s t ls lt)
