-- Relaxing along the roads out of u comes to what `relax` and `sums` say place by place.
use Rattle.std.proofs.Common.{◌≡◌, ℕ, ◌<◌, ◌≤◌, Bool, true, false, eqb, leb, ◌⊎◌, List, [], ◌∷◌, length, get_or, set, sym, refl, ap, ◌∙◌, subst, ap₂, inl, inr, ⊎_elim, zero-add, arith, length-set, eqb-true, leb-false, leb-true}
use mathlib.Core.Option.{Option, some, none}
use borrow.Author.Tests.{eqb-false}
use Rattle.std.proofs.lemmas.List.{get_or-set_same, get_or-set_other, get_or_default, same_lists}
use Rattle.routes.specs.Costs.{Costs}
use Rattle.routes.specs.States.{Start, Label, Blank, Reached, Settled, Has}
use Rattle.routes.specs.Promise.{Among, NoneTwice}
use Rattle.routes.specs.Scales.{Scale, ops}
use Rattle.routes.specs.Search.{Found, label_at, cost_of}
use Rattle.routes.specs.Search
use Rattle.routes.specs.Rows.{Row, look, ends}
use Rattle.routes.specs.Rows as R
use Rattle.routes.proofs.Sums
use Rattle.routes.proofs.Parts
use Rattle.routes.proofs.Scan.{has_one}
use Rattle.routes.proofs.Gate.{none_some, some_one}

module _ {K : Type 0} where
  pub look_cases : (r : ℕ × K) (row : Row K) (v : ℕ) → ((r.0 ≡ v) × (look (r ∷ row) v ≡ some r.1)) ⊎ ((v ≡ r.0 → ⊥) × (look (r ∷ row) v ≡ look row v))
  look_cases r row v = by (eqb r.0 v) refl
    where
      by : (b : Bool) → eqb r.0 v ≡ b →
          ((r.0 ≡ v) × (elim b [ true ↦ some r.1 | false ↦ look row v ] ≡ some r.1)) ⊎ ((v ≡ r.0 → ⊥) × (elim b [ true ↦ some r.1 | false ↦ look row v ] ≡ look row v))
      by true e = inl (eqb-true _ _ e, refl)
      by false e = inr (λ q. eqb-false _ _ e (sym q), refl)

  look_none : (row : Row K) (v : ℕ) → (Among v (ends row) → ⊥) → look row v ≡ none
  look_none [] v n = refl
  look_none (r ∷ row) v n = ⊎_elim (λ h. absurd (n (inl (sym h.0)))) (λ h. h.1 ∙ look_none row v (λ i. n (inr i))) (look_cases r row v)

  in_look : (row : Row K) (v : ℕ) → Among v (ends row) → (p : K) × (look row v ≡ some p)
  in_look [] v h = absurd h
  in_look (r ∷ row) v h =
      ⊎_elim (λ k. (r.1, k.1)) (λ k. let q = in_look row v (⊎_elim (λ e. absurd (k.0 e)) (λ i. i) h) in (q.0, k.1 ∙ q.1)) (look_cases r row v)

  look_in : (row : Row K) (v : ℕ) (p : K) → look row v ≡ some p → Among v (ends row)
  look_in [] v p e = absurd (none_some {K = K} none p refl e)
  look_in (r ∷ row) v p e = ⊎_elim (λ k. inl (sym k.0)) (λ k. inr (look_in row v p (sym k.1 ∙ e))) (look_cases r row v)

module _ (C : Costs) (S : Scale C) where
  open S use {leq, leq_true, leq_false}
  open C use {Cost, ◌≼◌, ◌⊕◌, ≼_trans}

  infix 40 ◌≼◌
  infixl 65 ◌⊕◌
  row_length : (row : Row Cost) (u : ℕ) (c : Cost) (ls : List (Label Cost)) → length (R.relax_row (ops C S) row u c ls) ≡ length ls
  row_length [] u c ls = refl
  row_length (r ∷ row) u c ls = row_length row u c _ ∙ length-set ls r.0 _

  -- place by place
  row_at : (row : Row Cost) (u : ℕ) (c : Cost) (ls : List (Label Cost)) → NoneTwice (ends row) → ((v : ℕ) → Among v (ends row) → v < length ls) →
      (v : ℕ) → label_at (R.relax_row (ops C S) row u c ls) v ≡ Search.relaxed (ops C S) (look row v) u c (label_at ls v)
  row_at [] u c ls n h v = refl
  row_at (r ∷ row) u c ls n h v =
      row_at row u c ls' n.1 (λ w i. subst (λ z. w < z) (sym (length-set ls r.0 _)) (h w (inr i))) v
      ∙ ⊎_elim
      (λ k. subst (λ w. Search.relaxed (ops C S) (look row w) u c (label_at ls' w) ≡ Search.relaxed (ops C S) (some r.1) u c (label_at ls w)) k.0 here
      ∙ ap (λ z. Search.relaxed (ops C S) z u c (label_at ls v)) (sym k.1))
      (λ k. ap (λ z. Search.relaxed (ops C S) (look row v) u c z) (get_or-set_other ls r.0 v _ Blank k.0) ∙ ap (λ z. Search.relaxed (ops C S) z u c (label_at ls v)) (sym k.1))
      (look_cases r row v)
    where
      ls' : List (Label Cost)
      ls' = set ls r.0 (Search.relaxed (ops C S) (some r.1) u c (label_at ls r.0))

      here : Search.relaxed (ops C S) (look row r.0) u c (label_at ls' r.0) ≡ Search.relaxed (ops C S) (some r.1) u c (label_at ls r.0)
      here = ap (λ z. Search.relaxed (ops C S) z u c (label_at ls' r.0)) (look_none row r.0 n.0) ∙ get_or-set_same ls r.0 _ Blank (h r.0 (inl refl))

  pub relax_row_is : (row : Row Cost) (u : ℕ) (c : Cost) (ls : List (Label Cost)) → NoneTwice (ends row) → ((v : ℕ) → Among v (ends row) → v < length ls) →
      R.relax_row (ops C S) row u c ls ≡ Search.relax (ops C S) (look row) u c 0 ls
  relax_row_is row u c ls n h = same_lists _ _ (row_length row u c ls ∙ sym (Parts.relax_length C S (look row) u c 0 ls)) same
    where
      same : (k : ℕ) (d : Label Cost) → k < length (R.relax_row (ops C S) row u c ls) → get_or (R.relax_row (ops C S) row u c ls) k d ≡ get_or (Search.relax (ops C S) (look row) u c 0 ls) k d
      same k d l =
          get_or_default _ k d Blank l ∙ row_at row u c ls n h k
          ∙ sym (Parts.relax_at C S (look row) u c 0 ls k (omega (arith, l, row_length row u c ls)) ∙ ap (λ z. Search.relaxed (ops C S) (look row z) u c (label_at ls k)) (zero-add k))
          ∙ get_or_default _ k Blank d (omega (arith, l, row_length row u c ls, Parts.relax_length C S (look row) u c 0 ls))

  -- the best of the sums at the places of D: the cheapest, of equals the lowest
  pub record Best (D : ℕ → Type 0) (l m : List (Label Cost)) (f : Found Cost) : Type 0 where
    pub origin_is : f.origin ≡ Start
    pub there : D f.place
    pub mine : Cost
    pub theirs : Cost
    pub has_mine : Has (label_at l f.place) mine
    pub has_theirs : Has (label_at m f.place) theirs
    pub cost_is : mine ⊕ theirs ≡ f.cost
    pub least : (v : ℕ) (a b : Cost) → D v → Has (label_at l v) a → Has (label_at m v) b → f.cost ≼ a ⊕ b
    pub lowest : (v : ℕ) (a b : Cost) → D v → Has (label_at l v) a → Has (label_at m v) b → a ⊕ b ≼ f.cost → f.place ≤ v

  abbrev pub BestOk : (ℕ → Type 0) → List (Label Cost) → List (Label Cost) → Option (Found Cost) → Type 0
  BestOk D l m none = (v : ℕ) (a b : Cost) → D v → Has (label_at l v) a → Has (label_at m v) b → ⊥
  BestOk D l m (some f) = Best D l m f

  -- there is only one
  best_one : (D D' : ℕ → Type 0) → ((v : ℕ) → D v → D' v) → ((v : ℕ) → D' v → D v) → (l m : List (Label Cost)) (o o' : Option (Found Cost)) → BestOk D l m o → BestOk D' l m o' → o ≡ o'
  best_one D D' to from l m none none h k = refl
  best_one D D' to from l m none (some g) h k = absurd (h g.place k.mine k.theirs (from _ k.there) k.has_mine k.has_theirs)
  best_one D D' to from l m (some f) none h k = absurd (k f.place h.mine h.theirs (to _ h.there) h.has_mine h.has_theirs)
  best_one D D' to from l m (some f) (some g) h k = ap some same
    where
      up : f.cost ≼ g.cost
      up = subst (λ z. f.cost ≼ z) k.cost_is (h.least g.place k.mine k.theirs (from _ k.there) k.has_mine k.has_theirs)

      down : g.cost ≼ f.cost
      down = subst (λ z. g.cost ≼ z) h.cost_is (k.least f.place h.mine h.theirs (to _ h.there) h.has_mine h.has_theirs)

      left : f.place ≤ g.place
      left = h.lowest g.place k.mine k.theirs (from _ k.there) k.has_mine k.has_theirs (subst (λ z. z ≼ f.cost) (sym k.cost_is) down)

      right : g.place ≤ f.place
      right = k.lowest f.place h.mine h.theirs (to _ h.there) h.has_mine h.has_theirs (subst (λ z. z ≼ g.cost) (sym h.cost_is) up)

      place_same : f.place ≡ g.place
      place_same = omega (arith, left, right)

      -- the same labels at the same place
      cost_same : f.cost ≡ g.cost
      cost_same =
          sym h.cost_is
          ∙ ap₂ ◌⊕◌ (has_one (label_at l g.place) _ _ (subst (λ z. Has (label_at l z) h.mine) place_same h.has_mine) k.has_mine)
          (has_one (label_at m g.place) _ _ (subst (λ z. Has (label_at m z) h.theirs) place_same h.has_theirs) k.has_theirs)
          ∙ k.cost_is

      origin_same : f.origin ≡ g.origin
      origin_same = h.origin_is ∙ sym k.origin_is

      same : f ≡ g
      same = λ i. record { place = place_same i; cost = cost_same i; origin = origin_same i }

  cost_none : (x : Label Cost) → cost_of x ≡ none → (a : Cost) → Has x a → ⊥
  cost_none Blank e a h = h
  cost_none (Reached c o) e a h = none_some (some c) c e refl
  cost_none (Settled c o) e a h = none_some (some c) c e refl

  cost_some : (x : Label Cost) (c : Cost) → cost_of x ≡ some c → Has x c
  cost_some Blank c e = absurd (none_some {K = Cost} none c refl e)
  cost_some (Reached d o) c e = some_one (some d) d c refl e
  cost_some (Settled d o) c e = some_one (some d) d c refl e

  -- a place that gives no sum
  widen : (D : ℕ → Type 0) (l m : List (Label Cost)) (o : Option (Found Cost)) (w : ℕ) → ((a b : Cost) → Has (label_at l w) a → Has (label_at m w) b → ⊥) → BestOk D l m o → BestOk (λ v. D v ⊎ (v ≡ w)) l m o
  widen D l m none w n h = λ v a b d i j. ⊎_elim (λ k. h v a b k i j) (λ e. n a b (subst (λ z. Has (label_at l z) a) e i) (subst (λ z. Has (label_at m z) b) e j)) d
  widen D l m (some f) w n h = record {
    origin_is = h.origin_is;
    there = inl h.there;
    mine = h.mine;
    theirs = h.theirs;
    has_mine = h.has_mine;
    has_theirs = h.has_theirs;
    cost_is = h.cost_is;
    least = λ v a b d i j. ⊎_elim (λ k. h.least v a b k i j) (λ e. absurd (n a b (subst (λ z. Has (label_at l z) a) e i) (subst (λ z. Has (label_at m z) b) e j))) d;
    lowest = λ v a b d i j q. ⊎_elim (λ k. h.lowest v a b k i j q) (λ e. absurd (n a b (subst (λ z. Has (label_at l z) a) e i) (subst (λ z. Has (label_at m z) b) e j))) d;
  }

  -- a place w that gives the sum a ⊕ b
  module _ (D : ℕ → Type 0) (l m : List (Label Cost)) (w : ℕ) (a b : Cost) (ha : Has (label_at l w) a) (hb : Has (label_at m w) b) where
    sum_at : (v : ℕ) (c d : Cost) → v ≡ w → Has (label_at l v) c → Has (label_at m v) d → a ⊕ b ≡ c ⊕ d
    sum_at v c d e i j =
        ap₂ ◌⊕◌ (has_one (label_at l w) a c ha (subst (λ z. Has (label_at l z) c) e i)) (has_one (label_at m w) b d hb (subst (λ z. Has (label_at m z) d) e j))

    keeps : (f : Found Cost) → Best D l m f → f.cost ≼ a ⊕ b → (a ⊕ b ≼ f.cost → f.place ≤ w) → Best (λ v. D v ⊎ (v ≡ w)) l m f
    keeps f h u n = record {
      origin_is = h.origin_is;
      there = inl h.there;
      mine = h.mine;
      theirs = h.theirs;
      has_mine = h.has_mine;
      has_theirs = h.has_theirs;
      cost_is = h.cost_is;
      least = λ v c d k i j. ⊎_elim (λ y. h.least v c d y i j) (λ e. subst (λ z. f.cost ≼ z) (sum_at v c d e i j) u) k;
      lowest = λ v c d k i j q. ⊎_elim (λ y. h.lowest v c d y i j q) (λ e. subst (λ z. f.place ≤ z) (sym e) (n (subst (λ z. z ≼ f.cost) (sym (sum_at v c d e i j)) q))) k;
    }

    takes : ((v : ℕ) (c d : Cost) → D v → Has (label_at l v) c → Has (label_at m v) d → a ⊕ b ≼ c ⊕ d) →
        ((v : ℕ) (c d : Cost) → D v → Has (label_at l v) c → Has (label_at m v) d → c ⊕ d ≼ a ⊕ b → w ≤ v) →
        Best (λ v. D v ⊎ (v ≡ w)) l m (record { place = w; cost = a ⊕ b; origin = Start })
    takes u n = record {
      origin_is = refl;
      there = inr refl;
      mine = a;
      theirs = b;
      has_mine = ha;
      has_theirs = hb;
      cost_is = refl;
      least = λ v c d k i j. ⊎_elim (λ y. u v c d y i j) (λ e. Sums.≼_≡ C (sum_at v c d e i j)) k;
      lowest = λ v c d k i j q. ⊎_elim (λ y. n v c d y i j q) (λ e. subst (λ z. w ≤ z) (sym e) (omega arith)) k;
    }

    compared : (f : Found Cost) → Best D l m f → Best (λ v. D v ⊎ (v ≡ w)) l m (R.prefer (ops C S) f (record { place = w; cost = a ⊕ b; origin = Start }))
    compared f h = by (leq f.cost (a ⊕ b)) refl (leq (a ⊕ b) f.cost) refl (leb f.place w) refl
      where
        g : Found Cost
        g = record { place = w; cost = a ⊕ b; origin = Start }

        by : (x : Bool) → leq f.cost (a ⊕ b) ≡ x → (y : Bool) → leq (a ⊕ b) f.cost ≡ y → (z : Bool) → leb f.place w ≡ z →
            Best (λ v. D v ⊎ (v ≡ w)) l m (elim x [ false ↦ g | true ↦ elim y [ false ↦ f | true ↦ elim z [ true ↦ f | false ↦ g ] ] ])
        by false ex y ey z ez = takes (λ v c d k i j. ≼_trans _ _ _ (Parts.leq_over C S _ _ ex) (h.least v c d k i j))
            (λ v c d k i j q. absurd (leq_false _ _ ex (≼_trans _ _ _ (h.least v c d k i j) q)))
        by true ex false ey z ez = keeps f h (leq_true _ _ ex) (λ q. absurd (leq_false _ _ ey q))
        by true ex true ey true ez = keeps f h (leq_true _ _ ex) (λ q. leb-true _ _ ez)
        by true ex true ey false ez = takes (λ v c d k i j. ≼_trans _ _ _ (leq_true _ _ ey) (h.least v c d k i j))
            (λ v c d k i j q. omega (arith, leb-false f.place w ez, h.lowest v c d k i j (≼_trans _ _ _ q (leq_true _ _ ey))))

  -- one place more
  step_best : (D : ℕ → Type 0) (l m : List (Label Cost)) (o : Option (Found Cost)) (w : ℕ) → BestOk D l m o →
      BestOk (λ v. D v ⊎ (v ≡ w)) l m (R.preferred (ops C S) (cost_of (label_at l w)) (cost_of (label_at m w)) w o)
  step_best D l m o w h = by (cost_of (label_at l w)) refl (cost_of (label_at m w)) refl o h
    where
      by : (x : Option Cost) → cost_of (label_at l w) ≡ x → (y : Option Cost) → cost_of (label_at m w) ≡ y → (o : Option (Found Cost)) → BestOk D l m o →
          BestOk (λ v. D v ⊎ (v ≡ w)) l m (R.preferred (ops C S) x y w o)
      by none ex y ey o h = widen D l m o w (λ a b i j. cost_none (label_at l w) ex a i) h
      by (some a) ex none ey o h = widen D l m o w (λ c b i j. cost_none (label_at m w) ey b j) h
      by (some a) ex (some b) ey none h =
          takes D l m w a b (cost_some (label_at l w) a ex) (cost_some (label_at m w) b ey) (λ v c d k i j. absurd (h v c d k i j)) (λ v c d k i j q. absurd (h v c d k i j))
      by (some a) ex (some b) ey (some f) h = compared D l m w a b (cost_some (label_at l w) a ex) (cost_some (label_at m w) b ey) f h

  -- a best over the same places
  over : (D D' : ℕ → Type 0) → ((v : ℕ) → D v → D' v) → ((v : ℕ) → D' v → D v) → (l m : List (Label Cost)) (o : Option (Found Cost)) → BestOk D l m o → BestOk D' l m o
  over D D' to from l m none h = λ v a b d i j. h v a b (from v d) i j
  over D D' to from l m (some f) h = record {
    origin_is = h.origin_is;
    there = to _ h.there;
    mine = h.mine;
    theirs = h.theirs;
    has_mine = h.has_mine;
    has_theirs = h.has_theirs;
    cost_is = h.cost_is;
    least = λ v a b d i j. h.least v a b (from v d) i j;
    lowest = λ v a b d i j q. h.lowest v a b (from v d) i j q;
  }

  -- along the row
  row_best : (D : ℕ → Type 0) (row : Row Cost) (l m : List (Label Cost)) (o : Option (Found Cost)) → BestOk D l m o → BestOk (λ v. D v ⊎ Among v (ends row)) l m (R.sum_row (ops C S) row l m o)
  row_best D [] l m o h = over D (λ v. D v ⊎ ⊥) (λ v d. inl d) (λ v d. ⊎_elim (λ x. x) (λ e. absurd e) d) l m o h
  row_best D (r ∷ row) l m o h =
      over (λ v. (D v ⊎ (v ≡ r.0)) ⊎ Among v (ends row)) (λ v. D v ⊎ ((v ≡ r.0) ⊎ Among v (ends row)))
      (λ v d. ⊎_elim (⊎_elim inl (λ e. inr (inl e))) (λ i. inr (inr i)) d) (λ v d. ⊎_elim (λ x. inl (inl x)) (⊎_elim (λ e. inl (inr e)) inr) d)
      l m _ (row_best (λ v. D v ⊎ (v ≡ r.0)) row l m _ (step_best D l m o r.0 h))

  -- `sums` as such a best
  sums_best : (r : ℕ → Option Cost) (l m : List (Label Cost)) (o : Option (Found Cost)) → Parts.SumOk C S r 0 l m o → BestOk (λ v. (p : Cost) × (r v ≡ some p)) l m o
  sums_best r l m none h = λ v a b d i j. h v d.0 a b (subst (λ z. r z ≡ some d.0) (sym (zero-add v)) d.1) i j
  sums_best r l m (some f) h = record {
    origin_is = h.origin_is;
    there = (h.road.0, subst (λ z. r z ≡ some h.road.0) (sym h.place_is) h.road.1);
    mine = h.mine;
    theirs = h.theirs;
    has_mine = subst (λ z. Has (label_at l z) h.mine) (sym here) h.has_mine;
    has_theirs = subst (λ z. Has (label_at m z) h.theirs) (sym here) h.has_theirs;
    cost_is = h.cost_is;
    least = λ v a b d i j. h.least v d.0 a b (subst (λ z. r z ≡ some d.0) (sym (zero-add v)) d.1) i j;
    lowest = λ v a b d i j q. subst (λ z. z ≤ v) (sym here) (h.lowest v d.0 a b (subst (λ z. r z ≡ some d.0) (sym (zero-add v)) d.1) i j q);
  }
    where
      here : f.place ≡ h.at
      here = h.place_is ∙ zero-add h.at

  -- the best sum along the row is the least sum
  pub sum_row_is : (row : Row Cost) (l m : List (Label Cost)) → R.sum_row (ops C S) row l m none ≡ Search.sums (ops C S) (look row) 0 l m
  sum_row_is row l m =
      best_one (λ v. ⊥ ⊎ Among v (ends row)) (λ v. (p : Cost) × (look row v ≡ some p)) (λ v d. ⊎_elim (λ e. absurd e) (in_look row v) d) (λ v d. inr (look_in row v d.0 d.1)) l m _ _
      (row_best (λ v. ⊥) row l m none (λ v a b d i j. d)) (sums_best (look row) l m _ (Parts.sums_ok C S (look row) 0 l m))
