-- The search runs to its stop, through turns: its answer is the least cost.
use Rattle.std.proofs.Common.{◌≡◌, ℕ, zero, suc, ◌+◌, ◌<◌, ◌≤◌, Bool, true, false, eqb, ◌⊎◌, List, get_or, replicate, sym, refl, ap, ◌∙◌, subst, inl, inr, ⊎_elim, arith, length-set, eqb-true}
use mathlib.Core.Option.{Option, some, none}
use borrow.Author.Tests.{eqb-false}
use Rattle.std.proofs.lemmas.Bool.{cases_lt}
use Rattle.std.proofs.lemmas.List.{get_or-set_same, get_or-set_other, get_or_past, get_or-replicate, length-replicate}
use Rattle.routes.specs.Costs.{Costs}
use Rattle.routes.specs.Walks.{Roads, Back, At}
use Rattle.routes.specs.Worlds.{World, Lawful, Own, mirror}
use Rattle.routes.specs.States.{Label, Blank, Side, State, IsReached, swap}
use Rattle.routes.specs.Turns.{Turn}
use Rattle.routes.specs.Invariants.{Stopped, Least}
use Rattle.routes.specs.Routes.{Simple}
use Rattle.routes.specs.Kept.{tally, Keeping}
use Rattle.routes.specs.Runs.{Sets, Begins, Comes, begin, forth, back}
use Rattle.routes.specs.Scales.{Scale, ops}
use Rattle.routes.specs.Search.{Given, Both, Found, label_at, side, view, flip, turn_pair, other}
use Rattle.routes.specs.Search
use Rattle.routes.specs.Asked.{world, Paired, Sized, Fit}
use Rattle.routes.proofs.Sums
use Rattle.routes.proofs.Ways
use Rattle.routes.proofs.Parts
use Rattle.routes.proofs.Tally
use Rattle.routes.proofs.Settle
use Rattle.routes.proofs.Expand
use Rattle.routes.proofs.Mirror
use Rattle.routes.proofs.Step
use Rattle.routes.proofs.Whole
use Rattle.routes.proofs.Gate.{none_some, some_one}

pair_turned : (o : Option (ℕ × ℕ)) (a b : ℕ) → turn_pair o ≡ some (a, b) → o ≡ some (b, a)
pair_turned none a b e = absurd (none_some {K = ℕ × ℕ} none (a, b) refl e)
pair_turned (some p) a b e =
    let q : ◌≡◌ {A = ℕ × ℕ} (p.1, p.0) (a, b) = some_one {K = ℕ × ℕ} (some (p.1, p.0)) (p.1, p.0) (a, b) refl e in
    ap (λ (z : ℕ × ℕ). some (z.1, z.0)) q

module _ (C : Costs) where
  open C use {Cost, ◌≼◌, ◌⊕◌, free, blocked, ≼_trans, ⊕_comm}

  infix 40 ◌≼◌
  infixl 65 ◌⊕◌
  -- a search seen from the other side
  begins_other : (s t : ℕ) (x : State Cost) → Begins C s t x → Begins C t s (swap x)
  begins_other s t x h = record {
    fore = h.back;
    back = h.fore;
    costs = ⊎_elim (λ b. inl (sym b.0, b.1, b.2, b.3 ∙ b.0)) (λ b. inr (λ e. b.0 (sym e), b.1, b.2)) h.costs;
  }

  comes_other : (W : World C) (s t : ℕ) {x : State Cost} → Comes C W s t x → Comes C (mirror C W) t s (swap x)
  comes_other W s t (begin {x} h) = begin (begins_other s t x h)
  comes_other W s t (forth {x} {x'} r T) = back (comes_other W s t r) T
  comes_other W s t (back {x} {x'} r T) = forth (comes_other W s t r) T

  paired_other : (G : Given Cost) → Paired C G → Paired C (flip G)
  paired_other G h i j a b e = Ways.turned C (h j i b a (pair_turned (G.pair j i) a b e))

  stop_other : (x : State Cost) → Stopped C x → Stopped C (swap x)
  stop_other x h y z c d i j = ≼_trans _ _ _ (h z y d c j i) (⊕_comm d c).0

  -- a turn settles one place more
  turn_tally : (W : World C) (s t : ℕ) (x x' : State Cost) → Keeping C W.Edge (Own C W s) (Own C W t) W.size s t x → Turn C W s t x x' →
      (tally x'.fore.label W.size ≡ suc (tally x.fore.label W.size)) × (tally x'.back.label W.size ≡ tally x.back.label W.size)
  turn_tally W s t x x' k (inl T) = (
    Settle.count C x.fore x'.fore T.u T.c T.settling.origin T.settling.settles W.Edge W.size (At s) k.rank_f k.fore,
    ap (λ (z : Side Cost). tally z.label W.size) T.settling.back_same,
  )
  turn_tally W s t x x' k (inr T) = (
    Expand.same_count C W.Edge T.mid x'.fore T.u T.c T.expands W.size
        ∙ Settle.count C x.fore T.mid T.u T.c T.settling.origin T.settling.settles W.Edge W.size (At s) k.rank_f k.fore,
    ap (λ (z : Side Cost). tally z.label W.size) T.settling.back_same,
  )

  module _ (S : Scale C) where
    open S use {leq, leq_true}

    -- when the search goes on
    going_some : (a b : Option (Found Cost)) (best : Cost) (f : Found Cost) → Search.going (ops C S) a b best ≡ some f → a ≡ some f
    going_some none b best f e = e
    going_some (some a) none best f e = absurd (none_some {K = Found Cost} none f refl e)
    going_some (some a) (some b) best f e = by (leq best (a.cost ⊕ b.cost)) e
      where
        by : (c : Bool) → elim c [ true ↦ none | false ↦ some a ] ≡ some f → some a ≡ some f
        by true e = absurd (none_some {K = Found Cost} none f refl e)
        by false e = e

    going_none : (σ τ : List (Label Cost)) (best : Cost) (a b : Option (Found Cost)) → Parts.NearestOk C S 0 σ a → Parts.NearestOk C S 0 τ b → Search.going (ops C S) a b best ≡ none →
        (x y : ℕ) (c d : Cost) → IsReached (label_at σ x) c → IsReached (label_at τ y) d → best ≼ c ⊕ d
    going_none σ τ best none b h k e x y c d i j = absurd (h x c i)
    going_none σ τ best (some a) none h k e x y c d i j = absurd (k y d j)
    going_none σ τ best (some a) (some b) h k e x y c d i j = by (leq best (a.cost ⊕ b.cost)) refl e
      where
        by : (t : Bool) → leq best (a.cost ⊕ b.cost) ≡ t → ◌≡◌ {A = Option (Found Cost)} (elim t [ true ↦ none | false ↦ some a ]) none → best ≼ c ⊕ d
        by true t e = ≼_trans _ _ _ (leq_true _ _ t) (Sums.mono₂ C (h.least x c i) (k.least y d j))
        by false t e = absurd (none_some {K = Found Cost} (some a) a e refl)

    next_near : (x : Both Cost) (f : Found Cost) → Search.next (ops C S) x ≡ some f → Parts.Nearest C S 0 x.fore.labels f
    next_near x f e =
        subst (Parts.NearestOk C S 0 x.fore.labels) (going_some (Search.nearest (ops C S) 0 x.fore.labels) (Search.nearest (ops C S) 0 x.back.labels) x.best f e)
        (Parts.nearest_ok C S 0 x.fore.labels)

    next_stop : (x : Both Cost) → Search.next (ops C S) x ≡ none → Stopped C (view x)
    next_stop x e = going_none x.fore.labels x.back.labels x.best _ _ (Parts.nearest_ok C S 0 x.fore.labels) (Parts.nearest_ok C S 0 x.back.labels) e

    -- the run
    pub record Ran (W : World C) (s t : ℕ) (x : Both Cost) : Type 0 where
      pub comes : Comes C W s t (view x)
      pub stop : Stopped C (view x)

    abbrev settled : ℕ → Both Cost → ℕ
    settled n x = tally (label_at x.fore.labels) n + tally (label_at x.back.labels) n

    pub runs : (n : ℕ) (G : Given Cost) (B : Roads C) → Lawful C (world C G B) → Paired C G → (s t : ℕ) → s < G.size → t < G.size → (x : Both Cost) → Fit G.size x →
        Comes C (world C G B) s t (view x) → G.size + G.size ≤ n + settled G.size x → Ran (world C G B) s t (Search.run (ops C S) n G s t x)
    runs zero G B L p s t ls lt x fit r room = by (Search.next (ops C S) x) refl
      where
        by : (o : Option (Found Cost)) → Search.next (ops C S) x ≡ o → Ran (world C G B) s t x
        by none e = record { comes = r; stop = next_stop x e }
        by (some f) e =
            let x' = Search.step (ops C S) G s t x f in
            let T = Step.step_turn C S G B L p s t x fit f (next_near x f e) in
            let m = turn_tally (world C G B) s t (view x) (view x') (Whole.kept C (world C G B) L s t ls lt r) T in
            absurd (omega (arith, m.0, room, Tally.tally_le (label_at x'.fore.labels) G.size, Tally.tally_le (label_at x.back.labels) G.size))
    runs (suc n) G B L p s t ls lt x fit r room =
        (elim (Search.next (ops C S) x) as (λ o. Search.next (ops C S) x ≡ o → Ran (world C G B) s t (elim o [ none ↦ x | some f ↦ other (Search.run (ops C S) n (flip G) t s (other (Search.step (ops C S) G s t x f))) ])) [
          | none ↦ λ e. record { comes = r; stop = next_stop x e }
          | some f ↦ λ e.
              let x' = Search.step (ops C S) G s t x f in
              let T = Step.step_turn C S G B L p s t x fit f (next_near x f e) in
              let m = turn_tally (world C G B) s t (view x) (view x') (Whole.kept C (world C G B) L s t ls lt r) T in
              let fit' = Step.step_fit C S G B L p s t x fit f (next_near x f e) in
              let y = runs n (flip G) (Back C B) (Mirror.lawful C (world C G B) L) (paired_other G p) t s lt ls (other x') (record { fore = fit'.back; back = fit'.fore })
              (comes_other (world C G B) s t (forth r T)) (omega (arith, m.0, m.1, room)) in
              record { comes = comes_other (mirror C (world C G B)) t s y.comes; stop = stop_other (view (Search.run (ops C S) n (flip G) t s (other x'))) y.stop }
        ]) refl

    -- the beginning
    half_sets : (n s : ℕ) → s < n → Sets C (At s) (side (Search.half (ops C S) n s))
    half_sets n s l = record {
      start = λ v e. ap (label_at (Search.half (ops C S) n s).labels) e ∙ get_or-set_same (replicate n Blank) s _ Blank (omega (arith, l, length-replicate {A = Label Cost} n Blank));
      blank = λ v m. get_or-set_other (replicate n Blank) s v _ Blank m ∙ blank v;
      no_gate = refl;
    }
      where
        blank : (v : ℕ) → get_or {A = Label Cost} (replicate n Blank) v Blank ≡ Blank
        blank v = ⊎_elim (λ h. get_or-replicate n v Blank Blank h) (λ h. get_or_past (replicate n Blank) v Blank (omega (arith, h, length-replicate {A = Label Cost} n Blank))) (cases_lt v n)

    half_sized : (n s : ℕ) → Sized n (Search.half (ops C S) n s)
    half_sized n s = record { labels = length-set _ _ _ ∙ length-replicate n Blank; expands = length-replicate n false }

    first_begins : (n s t : ℕ) → s < n → t < n → Begins C s t (view (Search.first (ops C S) n s t))
    first_begins n s t ls lt = record { fore = half_sets n s ls; back = half_sets n t lt; costs = by (eqb s t) refl }
      where
        by : (b : Bool) → eqb s t ≡ b →
            ((s ≡ t) × (elim b [ true ↦ free | false ↦ blocked ] ≡ free) × (elim b [ true ↦ free | false ↦ blocked ] ≡ free) × (s ≡ s))
            ⊎ ((s ≡ t → ⊥) × (elim b [ true ↦ free | false ↦ blocked ] ≡ blocked) × (elim b [ true ↦ free | false ↦ blocked ] ≡ blocked))
        by true e = inl (eqb-true s t e, refl, refl, refl)
        by false e = inr (eqb-false s t e, refl, refl)

    module _ (G : Given Cost) (B : Roads C) (L : Lawful C (world C G B)) (p : Paired C G) (s t : ℕ) (ls : s < G.size) (lt : t < G.size) where
      abbrev answer : Both Cost
      answer = Search.search_best (ops C S) G s t

      pub ran : Ran (world C G B) s t answer
      ran =
          runs (G.size + G.size) G B L p s t ls lt (Search.first (ops C S) G.size s t) (record { fore = half_sized G.size s; back = half_sized G.size t })
          (begin (first_begins G.size s t ls lt)) (omega arith)

      -- best is least, and blocked exactly if there is no walk
      pub right : Least C (λ u v q. G.price u v ≡ some q) s t answer.best
      right = Whole.least C (world C G B) L s t ls lt (view answer) ran.comes ran.stop

      -- the route
      pub right_route : (blocked ≼ answer.best → ⊥) → Simple C (λ u v q. G.price u v ≡ some q) s t (view answer)
      right_route = Whole.simple C (world C G B) L s t ls lt (view answer) ran.comes ran.stop
