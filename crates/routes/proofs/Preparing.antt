-- Preparing a row turn by turn, over lists of labels and the rows of open roads of the base map.
use Rattle.std.proofs.Common.{◌≡◌, ℕ, suc, ◌<◌, Bool, List, length, set, sym, refl, ◌∙◌, subst, arith, length-set}
use mathlib.Core.Option.{Option as Maybe, some, none}
use Rattle.fringe.specs.Orders.{TotalOrder}
use Rattle.map.specs.Model.{MapModel, WellFormed, Inhabits}
use Rattle.measure.specs.Costs.{CostLaws}
use Rattle.routes.specs.Costs.{Costs}
use Rattle.routes.specs.Walks.{Roads}
use Rattle.routes.specs.States.{Start, Label, Blank, Reached, Settled, Has}
use Rattle.routes.specs.Kept.{tally}
use Rattle.routes.specs.Spreads.{Stems, Firsts, Spreading, Grows, begin, turn}
use Rattle.routes.specs.Prepared.{RowHolds}
use Rattle.routes.specs.Filling.{Filled}
use Rattle.routes.specs.Scales.{Scale}
use Rattle.routes.specs.Search.{Ops, Found, label_at}
use Rattle.routes.specs.Search
use Rattle.routes.specs.Rows.{look}
use Rattle.routes.specs.Rows as R
use Rattle.routes.specs.Sweeps.{swept_side, root, sweep_on}
use Rattle.routes.specs.Asking.{open_roads}
use Rattle.routes.proofs.Parts
use Rattle.routes.proofs.Rows
use Rattle.routes.proofs.Spread
use Rattle.routes.proofs.Sweep
use Rattle.routes.proofs.MapRoads
use Rattle.routes.proofs.Linked
use Rattle.routes.proofs.RowRight

module _ {K T : Type 0} (thing : K → T) (leq : T → T → Bool) (order : TotalOrder leq)
    (plus : K → K → K) (nil blocked : K) (price : ℕ → ℕ → K) (code : K → ℕ) (laws : CostLaws thing leq plus nil blocked price code)
    (base : MapModel) (fits : WellFormed base) (i : ℕ) where
  abbrev C : Costs
  C = Linked.costs thing leq order plus nil blocked price code laws

  abbrev S : Scale C
  S = Linked.scale thing leq order plus nil blocked price code laws

  abbrev O : Ops K
  O = Linked.operations thing leq order plus nil blocked price code laws

  abbrev E : Roads C
  E = Linked.roads_of thing leq order plus nil blocked price code laws base

  -- The labels and the first settled place of each district, as a spread from the district i comes to them.
  abbrev pub Swept : List (Label K) → (ℕ → Maybe ℕ) → Type 0
  Swept l first = Grows C E base.district (Inhabits base i) (record { side = swept_side l; first = first })

  -- the beginning
  pub begins : (l : List (Label K)) (first : ℕ → Maybe ℕ) → ((v : ℕ) → Inhabits base i v → label_at l v ≡ Reached nil Start) →
      ((v : ℕ) → (Inhabits base i v → ⊥) → label_at l v ≡ Blank) → ((j : ℕ) → first j ≡ none) → Swept l first
  begins l first start blank n = begin (record { start = start; blank = blank; no_gate = refl }) n

  pub kept : (l : List (Label K)) (first : ℕ → Maybe ℕ) → Swept l first → Spreading C E base.district base.places (Inhabits base i) (record { side = swept_side l; first = first })
  kept l first g = Spread.kept C E base.district base.places (Inhabits base i) (RowRight.ground thing leq order plus nil blocked price code laws base fits i) g

  -- a turn: the nearest place is settled, and its roads are relaxed along their row
  module _ (l : List (Label K)) (sized : length l ≡ base.places) (f : Found K) (near : Parts.Nearest C S 0 l f) where
    abbrev pub after : List (Label K)
    after = R.relax_row O (open_roads price base f.place) f.place f.cost (set l f.place (Settled f.cost f.origin))

    place_known : f.place < base.places
    place_known = omega (arith, near.place_is, near.in_range, sized)

    after_is : after ≡ sweep_on O (look (open_roads price base f.place)) l f
    after_is = Rows.relax_row_is C S (open_roads price base f.place) f.place f.cost (set l f.place (Settled f.cost f.origin))
        (MapRoads.out_once plus nil price base fits f.place place_known)
        (λ v h. subst (λ z. v < z) (sym (length-set l f.place _ ∙ sized)) (MapRoads.out_known plus nil price base fits f.place v h))

    abbrev to : (v : ℕ) (p : K) → look (open_roads price base f.place) v ≡ some p → E f.place v p
    to v p e = MapRoads.look_open plus nil price base fits f.place v p place_known e

    abbrev from : (v : ℕ) (p : K) → E f.place v p → look (open_roads price base f.place) v ≡ some p
    from v p x = MapRoads.open_look plus nil price base fits f.place v p x

    pub goes_on : (first first' : ℕ → Maybe ℕ) → Firsts base.district first first' f.place → Swept l first → Swept after first'
    goes_on first first' h g = subst (λ z. Swept z first') (sym after_is)
        (turn g (Sweep.spreads C S E base.places (MapRoads.end_known plus nil price base fits) l sized f near (look (open_roads price base f.place)) to from base.district first first' h))

    pub sized_after : length after ≡ base.places
    sized_after = subst (λ z. length z ≡ base.places) (sym after_is)
        (Sweep.sized_on C S E base.places (MapRoads.end_known plus nil price base fits) l sized f near (look (open_roads price base f.place)) to from)

    -- one place more is settled
    pub counted : (first : ℕ → Maybe ℕ) → Swept l first → tally (label_at after) base.places ≡ suc (tally (label_at l) base.places)
    counted first g =
        let k = kept l first g in
        subst (λ z. tally (label_at z) base.places ≡ suc (tally (label_at l) base.places)) (sym after_is)
        (Sweep.counted C S E base.places (MapRoads.end_known plus nil price base fits) l sized f near (look (open_roads price base f.place)) to from (Inhabits base i) k.rank k.one)

  -- where the chain of a labelled place begins
  pub root_is : (l : List (Label K)) (first : ℕ → Maybe ℕ) → Swept l first → (v : ℕ) (c : K) → Has (label_at l v) c → Stems (swept_side l) v (root (suc base.places) l v)
  root_is l first g v c h = let k = kept l first g in Sweep.root_is C S E base.places (Inhabits base i) l k.rank k.one v c h

  -- the end
  pub ends : (l : List (Label K)) (first : ℕ → Maybe ℕ) → Swept l first → Search.nearest O 0 l ≡ none → (entry : ℕ → K) (pair : ℕ → Maybe (ℕ × ℕ)) →
      Filled thing nil blocked base i (record { side = swept_side l; first = first }) entry pair → RowHolds thing leq plus nil blocked price base i entry pair
  ends l first g n entry pair f =
      RowRight.filled_holds thing leq order plus nil blocked price code laws base fits i (record { side = swept_side l; first = first }) g (Sweep.ended C S E base.district first l n) entry pair f
