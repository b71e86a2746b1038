-- The row at the end of a spread holds.
use Rattle.std.proofs.Common.{◌≡◌, ℕ, suc, ◌<◌, ◌≤◌, Bool, true, ltb, List, get_or, Some, None, Option, sym, refl, ap, ◌∙◌, subst, ⊎_elim, arith}
use mathlib.Core.Option.{some, none}
use Rattle.std.proofs.lemmas.Bool.{cases_lt, cases_eq, cond-true, cond-false, lt-ltb, le-ltb}
use Rattle.fringe.specs.declared.place.Place.{Place}
use Rattle.fringe.specs.Orders.{TotalOrder}
use Rattle.map.specs.Model.{MapModel, WellFormed, Inhabits}
use Rattle.measure.specs.Costs.{CostLaws}
use Rattle.routes.specs.declared.labels.Label.{Label as Mark}
use Rattle.routes.specs.declared.labels.Label.TheVariants as mark
use Rattle.routes.specs.States.{Label, IsSettled}
use Rattle.routes.specs.Costs.{Costs}
use Rattle.routes.specs.Scales.{Scale}
use Rattle.routes.specs.Walks.{Roads, Walk}
use Rattle.routes.specs.Search.{label_at}
use Rattle.routes.specs.Search as search_spec
use Rattle.routes.specs.Sweeps.{swept_side, root}
use Rattle.routes.specs.Spreads.{Spread, FirstOk, Spanned}
use Rattle.routes.specs.Labels.{start_at, label_view}
use Rattle.routes.specs.Prepared.{LowestOf, RowHolds}
use Rattle.routes.specs.Filling.{FilledBy, Filled}
use Rattle.routes.proofs.LabelViews.{view_at}
use Rattle.routes.proofs.Scan.{settled_has}
use Rattle.routes.proofs.Linked as links
use Rattle.routes.proofs.Sweep as sweep
use Rattle.routes.proofs.RowRight as right
use Rattle.routes.proofs.Preparing as preparing
use Rattle.halves.specs.Labels.{spot}
use Rattle.routes.specs.Parts.{waiting}
use Rattle.halves.proofs.NearestIs as nearest
use Rattle.table.specs.declared.entry.Entry.{Entry}
use Rattle.table.specs.Entries.{no_entry, in_column}
use Rattle.table.specs.Views.{ends_of, pair_in, row_pairs, cost_in, row_costs}
use Rattle.preparing.specs.Firsts.{number_in, first_at}
use Rattle.preparing.specs.Entries.{Lowest, twice, cost_or, OwnEntry, EntryOf, NoEntry, EntryBy, RowBy}
use Rattle.preparing.specs.Rows.{linked}
use Rattle.preparing.proofs.Counts.{linked_le}
use Rattle.preparing.proofs.Swept.{seen, Keeps}

-- a settled label has its cost
settled_cost : {K : Type 0} (f : ℕ → ℕ) (blocked c : K) (x : Mark K) → IsSettled (label_view f x) c → cost_or blocked x ≡ c
settled_cost f blocked c mark.Blank h = absurd h
settled_cost f blocked c (mark.Reached d o) h = absurd h
settled_cost f blocked c (mark.Settled d o) h = h

none_number : (o : Option Place) → number_in o ≡ none → o ≡ None
none_number None e = refl
none_number (Some p) e = absurd (let z : ◌≡◌ {A = ℕ} 0 1 = cc in omega arith)

pub record Numbered (o : Option Place) (v : ℕ) : Type 0 where
  pub place : Place
  pub is : o ≡ Some place
  pub number : place.0 ≡ v

some_number : (o : Option Place) (v : ℕ) → number_in o ≡ some v → Numbered o v
some_number None v e = absurd (let z : ◌≡◌ {A = ℕ} 0 1 = cc in omega arith)
some_number (Some p) v e = record { place = p; is = refl; number = cc }

module _ {K T : Type 0} (thing : K → T) (leq : T → T → Bool) (order : TotalOrder leq)
    (plus : K → K → K) (nil blocked : K) (price : ℕ → ℕ → K) (code : K → ℕ) (laws : CostLaws thing leq plus nil blocked price code) (decoded : ℕ → K)
    (m : MapModel) (fits : WellFormed m) (d : ℕ) (known : d < m.districts)
    (n : ℕ) (labels : List (Mark K)) (firsts : List (Option Place)) (row : List Entry)
    (k : Keeps thing leq order plus nil blocked price code laws m fits d n labels firsts)
    (rest : (v : ℕ) → waiting (spot labels v) ≡ None)
    (by : RowBy thing decoded blocked m labels nil d firsts row) where
  abbrev C : Costs
  C = links.costs thing leq order plus nil blocked price code laws

  abbrev S : Scale C
  S = links.scale thing leq order plus nil blocked price code laws

  abbrev E : Roads C
  E = links.roads_of thing leq order plus nil blocked price code laws m

  abbrev view : List (Label K)
  view = seen thing leq order plus nil blocked price code laws m fits d labels

  abbrev end : Spread K
  end = record { side = swept_side view; first = first_at firsts }

  still : search_spec.nearest (links.operations thing leq order plus nil blocked price code laws) 0 view ≡ none
  still = nearest.idle_is thing leq order plus nil blocked price code laws (start_at m) labels labels (record { none = rest; same = refl })

  spanned : Spanned C E m.district (Inhabits m d) end
  spanned = right.spans thing leq order plus nil blocked price code laws m fits d end k.swept (sweep.ended C S E m.district (first_at firsts) view still)

  -- the entries of a row in its columns
  in_row : (j : ℕ) → j < 64 → in_column row j ≡ Some (get_or row j no_entry)
  in_row j l = cond-true (ltb j 64) (Some (get_or row j no_entry)) None (lt-ltb j 64 l)

  cost_at : (j : ℕ) → j < 64 → row_costs decoded row j ≡ decoded (get_or row j no_entry).number
  cost_at j l = ap (cost_in decoded) (in_row j l)

  pair_at : (j : ℕ) → j < 64 → row_pairs row j ≡ ends_of (get_or row j no_entry).pair
  pair_at j l = ap pair_in (in_row j l)

  pair_past : (j : ℕ) → 64 ≤ j → row_pairs row j ≡ none
  pair_past j l = ap pair_in (cond-false (ltb j 64) (Some (get_or row j no_entry)) None (le-ltb j 64 l))

  column : (j : ℕ) → j < m.districts → j < 64
  column j l = omega (arith, l, fits.few_districts)

  -- the district itself
  pub record Own (p : ℕ) : Type 0 where
    pub is : LowestOf m d p
    pub pair : row_pairs row d ≡ some (p, p)

  own : OwnEntry thing decoded nil m d (get_or row d no_entry)
  own = by.own (column d known)

  own_lowest : (p : ℕ) × Own p
  own_lowest = at own.lowest own.is_lowest (pair_at d (column d known) ∙ ap ends_of own.pair)
    where
      at : (o : Option Place) → Lowest m d o → row_pairs row d ≡ ends_of (twice o) → (p : ℕ) × Own p
      at None h e = let x = fits.no_empty_district d known in absurd (h x.place x.inhabits)
      at (Some p) h e = (p.0, record { is = h; pair = e })

  -- another district that has a first place
  module _ (j v : ℕ) (l : j < m.districts) (x : j ≡ d → ⊥) (e : first_at firsts j ≡ some v) where
    first : Numbered (get_or firsts j None) v
    first = some_number (get_or firsts j None) v e

    entry : EntryOf thing decoded blocked m labels first.place (get_or row j no_entry)
    entry = subst (λ o. EntryBy thing decoded blocked m labels o (get_or row j no_entry)) first.is (by.others j (column j l) x)

    ok : FirstOk C E m.district (swept_side view) j (some v)
    ok = subst (FirstOk C E m.district (swept_side view) j) e ((preparing.kept thing leq order plus nil blocked price code laws m fits d view (first_at firsts) k.swept).firsts j)

    first_cost : cost_or blocked (spot labels first.place.0) ≡ ok.0
    first_cost = ap (λ z. cost_or blocked (spot labels z)) first.number
        ∙ settled_cost (start_at m) blocked ok.0 (spot labels v) (subst (λ z. IsSettled z ok.0) (view_at (start_at m) labels v) ok.1)

    by_first : FilledBy thing nil blocked (swept_side view) v (row_costs decoded row j) (row_pairs row j)
    by_first = record {
      cost = ok.0;
      settled = ok.1;
      entry_is = ap thing (cost_at j (column j l)) ∙ entry.costs ∙ ap thing first_cost;
      root = root (suc m.places) view v;
      stems = preparing.root_is thing leq order plus nil blocked price code laws m fits d view (first_at firsts) k.swept v ok.0 (settled_has (label_at view v) ok.0 ok.1);
      pair_is = pair_at j (column j l) ∙ entry.pair ∙ ap (λ z. some (root (suc z) view first.place.0, first.place.0)) k.sized
          ∙ ap (λ z. some (root (suc m.places) view z, z)) first.number;
    }

  -- another that has none
  absent : (j : ℕ) → j < 64 → (j ≡ d → ⊥) → first_at firsts j ≡ none → NoEntry thing decoded blocked m labels (get_or row j no_entry)
  absent j l x e = subst (λ o. EntryBy thing decoded blocked m labels o (get_or row j no_entry)) (none_number (get_or firsts j None) e) (by.others j l x)

  absent_cost : (j : ℕ) → j < m.districts → (j ≡ d → ⊥) → first_at firsts j ≡ none → thing (row_costs decoded row j) ≡ thing blocked
  absent_cost j l x e = ap thing (cost_at j (column j l)) ∙ (absent j (column j l) x e).costs

  filled : Filled thing nil blocked m d end (row_costs decoded row) (row_pairs row)
  filled = record {
    lowest = own_lowest.0;
    is_lowest = own_lowest.1.is;
    own_entry = ap thing (cost_at d (column d known)) ∙ own.costs;
    own_pair = own_lowest.1.pair;
    first = by_first;
    absent_entry = absent_cost;
    absent_pair = λ j x e. ⊎_elim (λ l. pair_at j l ∙ (absent j l x e).pair) (λ l. pair_past j l) (cases_lt j 64);
  }

  pub row_holds : RowHolds thing leq plus nil blocked price m d (row_costs decoded row) (row_pairs row)
  row_holds = preparing.ends thing leq order plus nil blocked price code laws m fits d view (first_at firsts) k.swept still (row_costs decoded row) (row_pairs row) filled

  -- a linked district has a first place
  own_first : first_at firsts d ≡ none → ⊥
  own_first e = let x = fits.no_empty_district d known in spanned.no_walk d e x.place x.place nil x.inhabits x.inhabits.there Walk.stay

  severed : (j : ℕ) → j < m.districts → first_at firsts j ≡ none → leq (thing blocked) (thing (row_costs decoded row j)) ≡ true
  severed j l e = ⊎_elim
      (λ (s : j ≡ d). absurd (own_first (subst (λ z. first_at firsts z ≡ none) s e)))
      (λ x. subst (λ z. leq (thing blocked) z ≡ true) (sym (absent_cost j l x e)) (order.refl_leq (thing blocked)))
      (cases_eq j d)

  pub few_linked : linked thing leq blocked (row_costs decoded row) m.districts ≤ n
  few_linked = omega (arith, linked_le thing leq blocked (row_costs decoded row) (first_at firsts) m.districts severed, k.counted)
