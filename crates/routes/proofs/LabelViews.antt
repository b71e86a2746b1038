-- Lists of labels of code as lists of labels of the search.
use Rattle.std.proofs.Common.{◌≡◌, ℕ, zero, suc, List, [], ◌∷◌, length, get_or, set, replicate, Some, refl, ap}
use Rattle.map.specs.declared.roads.Road.{Road}
use Rattle.map.specs.Model.{MapModel}
use Rattle.routes.specs.declared.labels.Label.{Label as Mark}
use Rattle.routes.specs.declared.labels.Label.TheVariants as mark
use Rattle.routes.specs.States.{Blank}
use Rattle.routes.specs.Labels.{end_in, start_at, end_at, label_view, labels_view}

pub start_at_is : (m : MapModel) (r : ℕ) (x : Road) → m.road r ≡ Some x → start_at m r ≡ x.start.0
start_at_is m r x e = ap (end_in (λ x. x.start)) e

pub end_at_is : (m : MapModel) (r : ℕ) (x : Road) → m.road r ≡ Some x → end_at m r ≡ x.end.0
end_at_is m r x e = ap (end_in (λ x. x.end)) e

module _ {K : Type 0} (f : ℕ → ℕ) where
  pub view_length : (l : List (Mark K)) → length (labels_view f l) ≡ length l
  view_length [] = refl
  view_length (x ∷ l) = ap suc (view_length l)

  pub view_at : (l : List (Mark K)) (v : ℕ) → get_or (labels_view f l) v Blank ≡ label_view f (get_or l v mark.Blank)
  view_at [] v = refl
  view_at (x ∷ l) zero = refl
  view_at (x ∷ l) (suc v) = view_at l v

  pub view_set : (l : List (Mark K)) (v : ℕ) (x : Mark K) → labels_view f (set l v x) ≡ set (labels_view f l) v (label_view f x)
  view_set [] v x = refl
  view_set (y ∷ l) zero x = refl
  view_set (y ∷ l) (suc v) x = ap (λ z. label_view f y ∷ z) (view_set l v x)

  pub view_blank : (n : ℕ) → labels_view f (replicate {A = Mark K} n mark.Blank) ≡ replicate n Blank
  view_blank zero = refl
  view_blank (suc n) = ap (λ z. Blank ∷ z) (view_blank n)
