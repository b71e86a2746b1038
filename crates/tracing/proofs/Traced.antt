-- A chain of origins written down place by place.
use Rattle.std.proofs.Common.{◌≡◌, ℕ, suc, ◌+◌, ◌-◌, ◌<◌, ◌≤◌, List, [], ◌∷◌, ◌++◌, length, get_or, take, drop, set, Some, None, Option, sym, refl, ap, ◌∙◌, subst, ap₂, append_assoc, append-nil, arith, length-append, length-set, length-take}
use Rattle.std.proofs.lemmas.List.{take_more_set, drop-set-lt, drop-drop}
use Rattle.fringe.specs.declared.place.Place.{Place}
use Rattle.map.specs.declared.numbers.RoadId.{RoadId}
use Rattle.routes.specs.declared.labels.Origin.{Origin}
use Rattle.routes.specs.declared.labels.Origin.TheVariants.{Start, Road}
use Rattle.routes.specs.declared.labels.Label.{Label}
use Rattle.routes.specs.declared.labels.Label.TheVariants.{Blank, Reached, Settled}
use Rattle.routes.specs.States as states
use Rattle.routes.specs.Labels.{label_view, labels_view}
use Rattle.routes.specs.Search.{trail}
use Rattle.routes.proofs.LabelViews.{view_at}
use Rattle.tracing.specs.Listings.{numbers, Listed, Short}
use Rattle.routes.specs.Parts.{origin_in}
use Rattle.tracing.proofs.Numbers.{numbers_++, numbers_length}

-- nothing in a list of length 0
none_in : (l : List ℕ) → length l ≤ 0 → l ≡ []
none_in [] h = refl
none_in (x ∷ l) h = absurd (omega (arith, h))

module _ {K : Type 0} (f : ℕ → ℕ) (labels : List (Label K)) (n v : ℕ) where
  abbrev V : List (states.Label K)
  V = labels_view f labels

  abbrev T : List ℕ
  T = trail (suc n) V v

  -- one place of a chain, by the origin of its label
  abbrev after : ℕ → ℕ → Option Origin → List ℕ
  after k at None = []
  after k at (Some Start) = at ∷ []
  after k at (Some (Road r)) = at ∷ trail k V (f r.0)

  opened : (k at : ℕ) → trail (suc k) V at ≡ after k at (origin_in (get_or labels at Blank))
  opened k at = ap by (view_at f labels at) ∙ each (get_or labels at Blank)
    where
      by : states.Label K → List ℕ
      by l = elim l [
        | states.Blank ↦ []
        | states.Reached c o ↦ elim o [ states.Start ↦ at ∷ [] | states.From u ↦ at ∷ trail k V u ]
        | states.Settled c o ↦ elim o [ states.Start ↦ at ∷ [] | states.From u ↦ at ∷ trail k V u ]
      ]

      each : (l : Label K) → by (label_view f l) ≡ after k at (origin_in l)
      each Blank = refl
      each (Reached c Start) = refl
      each (Reached c (Road r)) = refl
      each (Settled c Start) = refl
      each (Settled c (Road r)) = refl

  -- what holds once i places were written down, and the chain goes on at `at`
  pub record Tracing (list₀ list : List Place) (i at : ℕ) : Type 0 where
    pub done : numbers (take i list) ++ trail (suc n - i) V at ≡ T
    pub kept : drop i list ≡ drop i list₀
    pub sized : length list ≡ length list₀
    pub reached : i ≤ length list

  whole : suc n - 0 ≡ suc n
  whole = omega arith

  pub tracing_none : (list : List Place) → Tracing list list 0 v
  tracing_none list = record { done = ap (λ k. trail k V v) whole; kept = refl; sized = refl; reached = omega arith }

  module _ {list₀ list : List Place} {i at : ℕ} (short : Short n (length list₀) T) (t : Tracing list₀ list i at) where
    taken_length : length (numbers (take i list)) ≡ i
    taken_length = numbers_length (take i list) ∙ (let k = length-take i list in let r = t.reached in omega (arith, k, r))

    lengths : i + length (trail (suc n - i) V at) ≡ length T
    lengths = ap (λ k. k + length (trail (suc n - i) V at)) (sym taken_length) ∙ sym (length-append (numbers (take i list)) (trail (suc n - i) V at)) ∙ ap length t.done

    within : i ≤ n
    within = let k = lengths in let s = short.few in omega (arith, k, s)

    one_more : suc n - i ≡ suc (n - i)
    one_more = let h = within in omega (arith, h)

    one_less : suc n - (i + 1) ≡ n - i
    one_less = omega arith

    -- the rest of the chain, by the origin of its next place
    rest_is : (o : Option Origin) → o ≡ origin_in (get_or labels at Blank) → trail (suc n - i) V at ≡ after (n - i) at o
    rest_is o e = ap (λ k. trail k V at) one_more ∙ opened (n - i) at ∙ ap (after (n - i) at) (sym e)

    listed_all : trail (suc n - i) V at ≡ [] → Listed T list₀ list i
    listed_all e = record {
      count_is = let k = lengths in let z : length (trail (suc n - i) V at) ≡ 0 = ap length e in omega (arith, k, z);
      first = sym (append-nil (numbers (take i list))) ∙ ap (λ l. numbers (take i list) ++ l) (sym e) ∙ t.done;
      rest = t.kept;
    }

    pub traced_stop : None ≡ origin_in (get_or labels at Blank) → Listed T list₀ list i
    traced_stop e = listed_all (rest_is None e)

    pub traced_full : (k : ℕ) → k ≡ length list → k ≤ i → Listed T list₀ list k
    traced_full k e h =
        let j : i ≡ k = let r = t.reached in omega (arith, e, h, r) in
        subst (Listed T list₀ list) j (listed_all (none_in _ (let l = lengths in let s = short.fits in let z = t.sized in omega (arith, l, s, z, e, j))))

    -- one place more
    module _ (l : i < length list) (p : Place) (p_is : p.0 ≡ at) where
      abbrev list' : List Place
      list' = set list i p

      taken_more : numbers (take (i + 1) list') ≡ numbers (take i list) ++ (at ∷ [])
      taken_more = ap numbers (take_more_set list i p l) ∙ numbers_++ (take i list) (p ∷ []) ∙ ap (λ k. numbers (take i list) ++ (k ∷ [])) p_is

      kept_more : drop (i + 1) list' ≡ drop (i + 1) list₀
      kept_more = drop-set-lt (i + 1) list i p (omega arith) ∙ sym (drop-drop 1 i list) ∙ ap (drop 1) t.kept ∙ drop-drop 1 i list₀

      pub traced_last : Some Start ≡ origin_in (get_or labels at Blank) → Listed T list₀ list' (i + 1)
      traced_last e = record {
        count_is = let k = lengths in let z : length (trail (suc n - i) V at) ≡ 1 = ap length (rest_is (Some Start) e) in omega (arith, k, z);
        first = taken_more ∙ ap (λ r. numbers (take i list) ++ r) (sym (rest_is (Some Start) e)) ∙ t.done;
        rest = kept_more;
      }

      pub traced_on : (r : RoadId) → Some (Road r) ≡ origin_in (get_or labels at Blank) → (at' : ℕ) → at' ≡ f r.0 → Tracing list₀ list' (i + 1) at'
      traced_on r e at' at_is = record {
        done = ap₂ (λ a k. a ++ trail k V at') taken_more one_less ∙ append_assoc (numbers (take i list)) (at ∷ []) (trail (n - i) V at')
            ∙ ap (λ z. numbers (take i list) ++ (at ∷ trail (n - i) V z)) at_is ∙ ap (λ z. numbers (take i list) ++ z) (sym (rest_is (Some (Road r)) e)) ∙ t.done;
        kept = kept_more;
        sized = length-set list i p ∙ t.sized;
        reached = let z = length-set list i p in omega (arith, z, l);
      }
