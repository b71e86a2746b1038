-- What the parts of the search compute: the least reached place, the relaxed labels, the least sum.
use Rattle.std.proofs.Common.{◌≡◌, ℕ, zero, suc, ◌+◌, ◌<◌, ◌≤◌, Bool, true, false, List, [], ◌∷◌, length, sym, refl, ap, ◌∙◌, subst, ⊎_elim, arith}
use mathlib.Core.Option.{Option, some, none}
use Rattle.routes.specs.Costs.{Costs}
use Rattle.routes.specs.States.{Origin, Start, Label, Blank, Reached, Settled, Has, IsReached}
use Rattle.routes.specs.Scales.{Scale, ops}
use Rattle.routes.specs.Search.{Found, label_at, cost_of}
use Rattle.routes.specs.Search
use Rattle.routes.proofs.Sums

-- a list of labels that starts at i; place number i + k is its k-th
module _ (C : Costs) (S : Scale C) where
  open C use {Cost, ◌≼◌, ◌⊕◌, ≼_trans, ≼_total}

  infix 40 ◌≼◌
  infixl 65 ◌⊕◌
  open S use {leq, leq_true, leq_false}

  -- a test that fails turns the order round
  pub leq_over : (a b : Cost) → leq a b ≡ false → b ≼ a
  leq_over a b e = ⊎_elim (λ l. absurd (leq_false a b e l)) (λ l. l) (≼_total a b)

  pub record Nearest (i : ℕ) (l : List (Label Cost)) (f : Found Cost) : Type 0 where
    pub at : ℕ
    pub place_is : f.place ≡ i + at
    pub in_range : at < length l
    pub label_is : label_at l at ≡ Reached f.cost f.origin
    pub least : (k : ℕ) (d : Cost) → IsReached (label_at l k) d → f.cost ≼ d
    pub lowest : (k : ℕ) (d : Cost) → IsReached (label_at l k) d → d ≼ f.cost → at ≤ k

  abbrev pub NearestOk : ℕ → List (Label Cost) → Option (Found Cost) → Type 0
  NearestOk i l none = (k : ℕ) (d : Cost) → IsReached (label_at l k) d → ⊥
  NearestOk i l (some f) = Nearest i l f

  -- one label in front that is not reached
  skip : (i : ℕ) (x : Label Cost) (l : List (Label Cost)) (o : Option (Found Cost)) → ((d : Cost) → IsReached x d → ⊥) → NearestOk (suc i) l o → NearestOk i (x ∷ l) o
  skip i x l none n h = none_here
    where
      none_here : (k : ℕ) (d : Cost) → IsReached (label_at (x ∷ l) k) d → ⊥
      none_here zero d r = n d r
      none_here (suc k) d r = h k d r
  skip i x l (some f) n h = record
      { at = suc h.at; place_is = h.place_is ∙ omega arith; in_range = omega (arith, h.in_range); label_is = h.label_is; least = least; lowest = lowest }
    where
      least : (k : ℕ) (d : Cost) → IsReached (label_at (x ∷ l) k) d → f.cost ≼ d
      least zero d r = absurd (n d r)
      least (suc k) d r = h.least k d r

      lowest : (k : ℕ) (d : Cost) → IsReached (label_at (x ∷ l) k) d → d ≼ f.cost → suc h.at ≤ k
      lowest zero d r w = absurd (n d r)
      lowest (suc k) d r w = omega (arith, h.lowest k d r w)

  -- a reached label in front
  near : (i : ℕ) (c : Cost) (q : Origin) (l : List (Label Cost)) (o : Option (Found Cost)) → NearestOk (suc i) l o →
      NearestOk i (Reached c q ∷ l) (Search.nearer (ops C S) (record { place = i; cost = c; origin = q }) o)
  near i c q l none h = record { at = 0; place_is = omega arith; in_range = omega arith; label_is = refl; least = least; lowest = λ k d r w. omega arith }
    where
      least : (k : ℕ) (d : Cost) → IsReached (label_at (Reached c q ∷ l) k) d → c ≼ d
      least zero d r = Sums.≼_≡ C r
      least (suc k) d r = absurd (h k d r)
  near i c q l (some f) h = by (leq c f.cost) refl
    where
      by : (b : Bool) → leq c f.cost ≡ b → NearestOk i (Reached c q ∷ l) (elim b [ true ↦ some (record { place = i; cost = c; origin = q }) | false ↦ some f ])
      by true e = record { at = 0; place_is = omega arith; in_range = omega arith; label_is = refl; least = least; lowest = λ k d r w. omega arith }
        where
          least : (k : ℕ) (d : Cost) → IsReached (label_at (Reached c q ∷ l) k) d → c ≼ d
          least zero d r = Sums.≼_≡ C r
          least (suc k) d r = ≼_trans _ _ _ (leq_true c f.cost e) (h.least k d r)
      by false e = record { at = suc h.at; place_is = h.place_is ∙ omega arith; in_range = omega (arith, h.in_range); label_is = h.label_is; least = least; lowest = lowest }
        where
          lowest : (k : ℕ) (d : Cost) → IsReached (label_at (Reached c q ∷ l) k) d → d ≼ f.cost → suc h.at ≤ k
          lowest zero d r w = absurd (leq_false _ _ e (≼_trans _ _ _ (Sums.≼_≡ C r) w))
          lowest (suc k) d r w = omega (arith, h.lowest k d r w)

          least : (k : ℕ) (d : Cost) → IsReached (label_at (Reached c q ∷ l) k) d → f.cost ≼ d
          least zero d r = ≼_trans _ _ _ (leq_over c f.cost e) (Sums.≼_≡ C r)
          least (suc k) d r = h.least k d r

  pub nearest_ok : (i : ℕ) (l : List (Label Cost)) → NearestOk i l (Search.nearest (ops C S) i l)
  nearest_ok i [] = λ k d r. r
  nearest_ok i (Blank ∷ l) = skip i Blank l (Search.nearest (ops C S) (suc i) l) (λ d r. r) (nearest_ok (suc i) l)
  nearest_ok i (Reached c q ∷ l) = near i c q l (Search.nearest (ops C S) (suc i) l) (nearest_ok (suc i) l)
  nearest_ok i (Settled c q ∷ l) = skip i (Settled c q) l (Search.nearest (ops C S) (suc i) l) (λ d r. r) (nearest_ok (suc i) l)

  -- there is only one such place
  pub nearest_one : (i : ℕ) (l : List (Label Cost)) (f g : Found Cost) → Nearest i l f → Nearest i l g → f ≡ g
  nearest_one i l f g h k = λ j. record { place = place_same j; cost = cost_same j; origin = origin_same j }
    where
      reached_f : IsReached (label_at l h.at) f.cost
      reached_f = subst (λ z. IsReached z f.cost) (sym h.label_is) refl

      reached_g : IsReached (label_at l k.at) g.cost
      reached_g = subst (λ z. IsReached z g.cost) (sym k.label_is) refl

      at_same : h.at ≡ k.at
      at_same =
          omega (arith, h.lowest k.at g.cost reached_g (k.least h.at f.cost reached_f), k.lowest h.at f.cost reached_f (h.least k.at g.cost reached_g))

      labels_same : Reached f.cost f.origin ≡ Reached g.cost g.origin
      labels_same = sym h.label_is ∙ ap (label_at l) at_same ∙ k.label_is

      place_same : f.place ≡ g.place
      place_same = omega (arith, h.place_is, k.place_is, at_same)

      cost_same : f.cost ≡ g.cost
      cost_same = cc labels_same

      origin_same : f.origin ≡ g.origin
      origin_same = cc labels_same

  -- relaxed labels, place by place
  pub relax_length : (r : ℕ → Option Cost) (u : ℕ) (c : Cost) (i : ℕ) (l : List (Label Cost)) → length (Search.relax (ops C S) r u c i l) ≡ length l
  relax_length r u c i [] = refl
  relax_length r u c i (x ∷ l) = ap suc (relax_length r u c (suc i) l)

  pub relax_at : (r : ℕ → Option Cost) (u : ℕ) (c : Cost) (i : ℕ) (l : List (Label Cost)) (k : ℕ) → k < length l →
      label_at (Search.relax (ops C S) r u c i l) k ≡ Search.relaxed (ops C S) (r (i + k)) u c (label_at l k)
  relax_at r u c i [] k h = absurd (omega arith)
  relax_at r u c i (x ∷ l) zero h = ap (λ z. Search.relaxed (ops C S) (r z) u c x) (omega arith)
  relax_at r u c i (x ∷ l) (suc k) h =
      relax_at r u c (suc i) l k (omega arith) ∙ ap (λ z. Search.relaxed (ops C S) (r z) u c (label_at l k)) (omega arith)

  -- the least sum
  pub record Sum (r : ℕ → Option Cost) (i : ℕ) (l m : List (Label Cost)) (f : Found Cost) : Type 0 where
    pub at : ℕ
    pub place_is : f.place ≡ i + at
    pub origin_is : f.origin ≡ Start
    pub road : (p : Cost) × (r (i + at) ≡ some p)
    pub mine : Cost
    pub theirs : Cost
    pub has_mine : Has (label_at l at) mine
    pub has_theirs : Has (label_at m at) theirs
    pub cost_is : mine ⊕ theirs ≡ f.cost
    pub least : (k : ℕ) (p a b : Cost) → r (i + k) ≡ some p → Has (label_at l k) a → Has (label_at m k) b → f.cost ≼ a ⊕ b
    pub lowest : (k : ℕ) (p a b : Cost) → r (i + k) ≡ some p → Has (label_at l k) a → Has (label_at m k) b → a ⊕ b ≼ f.cost → at ≤ k

  abbrev pub SumOk : (ℕ → Option Cost) → ℕ → List (Label Cost) → List (Label Cost) → Option (Found Cost) → Type 0
  SumOk r i l m none = (k : ℕ) (p a b : Cost) → r (i + k) ≡ some p → Has (label_at l k) a → Has (label_at m k) b → ⊥
  SumOk r i l m (some f) = Sum r i l m f

  -- a place in front that gives no sum
  skip_sum : (r : ℕ → Option Cost) (i : ℕ) (x y : Label Cost) (l m : List (Label Cost)) (o : Option (Found Cost)) →
      ((p a b : Cost) → r i ≡ some p → Has x a → Has y b → ⊥) → SumOk r (suc i) l m o → SumOk r i (x ∷ l) (y ∷ m) o
  skip_sum r i x y l m none n h = none_here
    where
      none_here : (k : ℕ) (p a b : Cost) → r (i + k) ≡ some p → Has (label_at (x ∷ l) k) a → Has (label_at (y ∷ m) k) b → ⊥
      none_here zero p a b e u v = n p a b (subst (λ z. r z ≡ some p) (omega arith) e) u v
      none_here (suc k) p a b e u v = h k p a b (subst (λ z. r z ≡ some p) (omega arith) e) u v
  skip_sum r i x y l m (some f) n h = record {
    at = suc h.at;
    place_is = h.place_is ∙ omega arith;
    origin_is = h.origin_is;
    road = (h.road.0, subst (λ z. r z ≡ some h.road.0) (omega arith) h.road.1);
    mine = h.mine;
    theirs = h.theirs;
    has_mine = h.has_mine;
    has_theirs = h.has_theirs;
    cost_is = h.cost_is;
    least = least;
    lowest = lowest;
  }
    where
      least : (k : ℕ) (p a b : Cost) → r (i + k) ≡ some p → Has (label_at (x ∷ l) k) a → Has (label_at (y ∷ m) k) b → f.cost ≼ a ⊕ b
      least zero p a b e u v = absurd (n p a b (subst (λ z. r z ≡ some p) (omega arith) e) u v)
      least (suc k) p a b e u v = h.least k p a b (subst (λ z. r z ≡ some p) (omega arith) e) u v

      lowest : (k : ℕ) (p a b : Cost) → r (i + k) ≡ some p → Has (label_at (x ∷ l) k) a → Has (label_at (y ∷ m) k) b → a ⊕ b ≼ f.cost → suc h.at ≤ k
      lowest zero p a b e u v w = absurd (n p a b (subst (λ z. r z ≡ some p) (omega arith) e) u v)
      lowest (suc k) p a b e u v w = omega (arith, h.lowest k p a b (subst (λ z. r z ≡ some p) (omega arith) e) u v w)

  -- a place in front that gives one
  near_sum : (r : ℕ → Option Cost) (i : ℕ) (x y : Label Cost) (c d : Cost) (l m : List (Label Cost)) (o : Option (Found Cost)) → Has x c → Has y d → (p : Cost) → r i ≡ some p →
      ((a : Cost) → Has x a → c ≡ a) → ((b : Cost) → Has y b → d ≡ b) →
      SumOk r (suc i) l m o → SumOk r i (x ∷ l) (y ∷ m) (Search.nearer (ops C S) (record { place = i; cost = c ⊕ d; origin = Start }) o)
  near_sum r i x y c d l m none hc hd p₀ e₀ oc od h = record
      { at = 0; place_is = omega arith; origin_is = refl; road = (p₀, subst (λ z. r z ≡ some p₀) (omega arith) e₀); mine = c; theirs = d; has_mine = hc; has_theirs = hd; cost_is = refl; least = least; lowest = λ k p a b e u v w. omega arith }
    where
      least : (k : ℕ) (p a b : Cost) → r (i + k) ≡ some p → Has (label_at (x ∷ l) k) a → Has (label_at (y ∷ m) k) b → c ⊕ d ≼ a ⊕ b
      least zero p a b e u v = Sums.mono₂ C (Sums.≼_≡ C (oc a u)) (Sums.≼_≡ C (od b v))
      least (suc k) p a b e u v = absurd (h k p a b (subst (λ z. r z ≡ some p) (omega arith) e) u v)
  near_sum r i x y c d l m (some f) hc hd p₀ e₀ oc od h = by (leq (c ⊕ d) f.cost) refl
    where
      by : (t : Bool) → leq (c ⊕ d) f.cost ≡ t → SumOk r i (x ∷ l) (y ∷ m) (elim t [ true ↦ some (record { place = i; cost = c ⊕ d; origin = Start }) | false ↦ some f ])
      by true q = record { at = 0; place_is = omega arith; origin_is = refl; road = (p₀, subst (λ z. r z ≡ some p₀) (omega arith) e₀); mine = c; theirs = d; has_mine = hc; has_theirs = hd; cost_is = refl; least = least; lowest = λ k p a b e u v w. omega arith }
        where
          least : (k : ℕ) (p a b : Cost) → r (i + k) ≡ some p → Has (label_at (x ∷ l) k) a → Has (label_at (y ∷ m) k) b → c ⊕ d ≼ a ⊕ b
          least zero p a b e u v = Sums.mono₂ C (Sums.≼_≡ C (oc a u)) (Sums.≼_≡ C (od b v))
          least (suc k) p a b e u v = ≼_trans _ _ _ (leq_true _ _ q) (h.least k p a b (subst (λ z. r z ≡ some p) (omega arith) e) u v)
      by false q = record {
        at = suc h.at;
        place_is = h.place_is ∙ omega arith;
        origin_is = h.origin_is;
        road = (h.road.0, subst (λ z. r z ≡ some h.road.0) (omega arith) h.road.1);
        mine = h.mine;
        theirs = h.theirs;
        has_mine = h.has_mine;
        has_theirs = h.has_theirs;
        cost_is = h.cost_is;
        least = least;
        lowest = lowest;
      }
        where
          lowest : (k : ℕ) (p a b : Cost) → r (i + k) ≡ some p → Has (label_at (x ∷ l) k) a → Has (label_at (y ∷ m) k) b → a ⊕ b ≼ f.cost → suc h.at ≤ k
          lowest zero p a b e u v w = absurd (leq_false _ _ q (≼_trans _ _ _ (Sums.mono₂ C (Sums.≼_≡ C (oc a u)) (Sums.≼_≡ C (od b v))) w))
          lowest (suc k) p a b e u v w = omega (arith, h.lowest k p a b (subst (λ z. r z ≡ some p) (omega arith) e) u v w)

          least : (k : ℕ) (p a b : Cost) → r (i + k) ≡ some p → Has (label_at (x ∷ l) k) a → Has (label_at (y ∷ m) k) b → f.cost ≼ a ⊕ b
          least zero p a b e u v = ≼_trans _ _ _ (leq_over _ _ q) (Sums.mono₂ C (Sums.≼_≡ C (oc a u)) (Sums.≼_≡ C (od b v)))
          least (suc k) p a b e u v = h.least k p a b (subst (λ z. r z ≡ some p) (omega arith) e) u v

  none_some : (o : Option Cost) (p : Cost) → o ≡ none → o ≡ some p → ⊥
  none_some o p a b = let z : ◌≡◌ {A = ℕ} 0 1 = cc in omega arith

  front : (r : ℕ → Option Cost) (i : ℕ) (o : Option Cost) → r i ≡ o → (x y : Label Cost) (l m : List (Label Cost)) (f : Option (Found Cost)) →
      SumOk r (suc i) l m f → SumOk r i (x ∷ l) (y ∷ m) (Search.summed (ops C S) o (cost_of x) (cost_of y) i f)
  front r i none e x y l m f h = skip_sum r i x y l m f (λ p a b k _ _. none_some (r i) p e k) h
  front r i (some p) e Blank y l m f h = skip_sum r i Blank y l m f (λ _ a b _ u _. u) h
  front r i (some p) e (Reached c q) Blank l m f h = skip_sum r i (Reached c q) Blank l m f (λ _ a b _ _ v. v) h
  front r i (some p) e (Reached c q) (Reached d t) l m f h = near_sum r i (Reached c q) (Reached d t) c d l m f refl refl p e (λ a k. k) (λ b k. k) h
  front r i (some p) e (Reached c q) (Settled d t) l m f h = near_sum r i (Reached c q) (Settled d t) c d l m f refl refl p e (λ a k. k) (λ b k. k) h
  front r i (some p) e (Settled c q) Blank l m f h = skip_sum r i (Settled c q) Blank l m f (λ _ a b _ _ v. v) h
  front r i (some p) e (Settled c q) (Reached d t) l m f h = near_sum r i (Settled c q) (Reached d t) c d l m f refl refl p e (λ a k. k) (λ b k. k) h
  front r i (some p) e (Settled c q) (Settled d t) l m f h = near_sum r i (Settled c q) (Settled d t) c d l m f refl refl p e (λ a k. k) (λ b k. k) h

  pub sums_ok : (r : ℕ → Option Cost) (i : ℕ) (l m : List (Label Cost)) → SumOk r i l m (Search.sums (ops C S) r i l m)
  sums_ok r i [] m = λ k p a b e u v. u
  sums_ok r i (x ∷ l) [] = λ k p a b e u v. v
  sums_ok r i (x ∷ l) (y ∷ m) = front r i (r i) refl x y l m (Search.sums (ops C S) r (suc i) l m) (sums_ok r (suc i) l m)
