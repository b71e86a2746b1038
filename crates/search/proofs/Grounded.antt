-- What a search is given is that of the map, and the guides of both sides read it.
use Rattle.std.proofs.Common.{◌≡◌, ℕ, ◌<◌, Bool, true, false, cond, ◌&&◌, ltb, List, [], ◌∷◌, get_or, Some, None, Option, sym, refl, ap, ◌∙◌, ap₂, arith}
use mathlib.Core.Option.{Option as Maybe, none}
use Rattle.std.proofs.lemmas.Bool.{lt-ltb, cond-true}
use Rattle.std.specs.Option.{option_map}
use Rattle.map.specs.declared.roads.Road.{Road}
use Rattle.map.specs.Model.{MapModel, WellFormed}
use Rattle.map.specs.Turned.{reversed, turned_round}
use Rattle.table.specs.declared.entry.Entry.{Entry}
use Rattle.table.specs.declared.tables.Table.{Table}
use Rattle.table.specs.Entries.{row_at, is_prepared, entries_of, entry_at, no_entry}
use Rattle.table.specs.Views.{pair_in, cost_in, stored}
use Rattle.routes.specs.Search.{Given, flip}
use Rattle.routes.specs.Rows.{Row, look}
use Rattle.routes.specs.Asking.{given, in_front, row_of, open_roads, roads_into}
use Rattle.routes.proofs.MapRoads as map_roads
use Rattle.turns.specs.Fits.{Fits}
use Rattle.search.specs.declared.guides.Guide.{Guide}
use Rattle.search.specs.declared.guides.Way.{Way}
use Rattle.search.specs.declared.guides.Way.TheVariants.{Forward, Backward}
use Rattle.search.specs.Guides.{Guides, facing, entry_ahead, cost_ahead, pair_ahead, is_gate, GuideOf}

module _ {K : Type 0} (price : ℕ → ℕ → K) where
  -- the roads into a place leave it on the map turned round
  front_turned : (o : Option Road) (row : Row K) → in_front price (λ x. x.end) (option_map reversed o) row ≡ in_front price (λ x. x.start) o row
  front_turned None row = refl
  front_turned (Some x) row = refl

  row_turned : (m : MapModel) (rs : List ℕ) → row_of price (λ x. x.end) (turned_round m) rs ≡ row_of price (λ x. x.start) m rs
  row_turned m [] = refl
  row_turned m (r ∷ rs) = ap (in_front price (λ x. x.end) (option_map reversed (m.road r))) (row_turned m rs) ∙ front_turned (m.road r) (row_of price (λ x. x.start) m rs)

  pub into_turned : (m : MapModel) (u : ℕ) → open_roads price (turned_round m) u ≡ roads_into price m u
  into_turned m u = row_turned m (m.arrivals u)

-- an entry of a row, prepared or not
module _ {K : Type 0} (zero : K) (decoded : ℕ → K) (table : Table) (i j : ℕ) (l : j < 64) where
  entry_is : (b : Bool) → is_prepared table i ≡ b → entry_at table i j ≡ cond b (Some (get_or (entries_of (row_at table i)) j no_entry)) None
  entry_is b e = ap₂ (λ z w. cond z w None) e (cond-true (ltb j 64) (Some (get_or (entries_of (row_at table i)) j no_entry)) None (lt-ltb j 64 l))

  cost_read : cost_ahead zero decoded (entry_at table i j) ≡ elim (is_prepared table i) [ true ↦ cost_in decoded (entry_at table i j) | false ↦ zero ]
  cost_read = by (is_prepared table i) refl
    where
      by : (b : Bool) → is_prepared table i ≡ b → cost_ahead zero decoded (entry_at table i j) ≡ elim b as (λ _. K) [ true ↦ cost_in decoded (entry_at table i j) | false ↦ zero ]
      by true e = ap (cost_ahead zero decoded) (entry_is true e) ∙ sym (ap (cost_in decoded) (entry_is true e))
      by false e = ap (cost_ahead zero decoded) (entry_is false e)

  pair_read : (way : Way) (pairs : Bool) →
      pair_ahead way pairs (entry_at table i j) ≡ facing way (elim (is_prepared table i && pairs) [ true ↦ pair_in (entry_at table i j) | false ↦ none ])
  pair_read way pairs = by (is_prepared table i) refl pairs way
    where
      e' : Entry
      e' = get_or (entries_of (row_at table i)) j no_entry

      by : (b : Bool) → is_prepared table i ≡ b → (p : Bool) (w : Way) → pair_ahead w p (entry_at table i j) ≡ facing w (elim (b && p) as (λ _. Maybe (ℕ × ℕ)) [ true ↦ pair_in (entry_at table i j) | false ↦ none ])
      by true e true w = ap (pair_ahead w true) (entry_is true e) ∙ sym (ap (λ z. facing w (pair_in z)) (entry_is true e))
      by true e false Forward = ap (pair_ahead Forward false) (entry_is true e)
      by true e false Backward = ap (pair_ahead Backward false) (entry_is true e)
      by false e p Forward = ap (pair_ahead Forward p) (entry_is false e)
      by false e p Backward = ap (pair_ahead Backward p) (entry_is false e)

module _ {K : Type 0} (plus : K → K → K) (nil : K) (price : ℕ → ℕ → K) (decoded : ℕ → K) (m base : MapModel) (lawful : WellFormed m) (sound : WellFormed base)
    (table : Table) (pairs : Bool) where
  abbrev G : Given K
  G = given nil price m base (stored decoded table) pairs

  pub fits_along : Fits price m G
  fits_along = record { size = refl; roads = λ u l. map_roads.price_out plus nil price m lawful u l }

  pub fits_against : Fits price (turned_round m) (flip G)
  fits_against = record {
    size = refl;
    roads = λ u l. map_roads.price_into plus nil price m lawful u l ∙ ap look (sym (into_turned price m u));
  }

  few : (u : ℕ) → u < base.places → base.district u < 64
  few u l = let k = sound.district_known u l in let d = sound.few_districts in omega (arith, k, d)

  module _ {B : Type 0} (on : B) (s t : ℕ) (s_known : s < base.places) (t_known : t < base.places) (guide : Guide B) where
    -- the side that goes along the roads
    module _ (of : GuideOf Forward base on table pairs s t guide) where
      along_entry : (u : ℕ) → entry_ahead guide.way guide.table.now (base.district u) guide.away.0 ≡ entry_at table (base.district u) (base.district t)
      along_entry u =
          ap (λ w. entry_ahead w guide.table.now (base.district u) guide.away.0) of.way_is ∙ ap₂ (λ z j. entry_at z (base.district u) j) of.table_is (of.away_is t_known)

      pub guided_along : Guides nil decoded base guide G s t
      guided_along = record {
        gates = λ u l. ap (λ d. is_gate base d u) (of.home_is s_known);
        costs = λ u l. ap (cost_ahead nil decoded) (along_entry u) ∙ cost_read nil decoded table (base.district u) (base.district t) (few t t_known);
        ends = λ u l. ap₂ (λ w e. pair_ahead w guide.pairs e) of.way_is (along_entry u) ∙ ap (λ p. pair_ahead Forward p (entry_at table (base.district u) (base.district t))) of.pairs_is
            ∙ pair_read nil decoded table (base.district u) (base.district t) (few t t_known) Forward pairs;
      }

    -- the side that goes against them, from t
    module _ (of : GuideOf Backward base on table pairs t s guide) where
      against_entry : (u : ℕ) → entry_ahead guide.way guide.table.now (base.district u) guide.away.0 ≡ entry_at table (base.district s) (base.district u)
      against_entry u =
          ap (λ w. entry_ahead w guide.table.now (base.district u) guide.away.0) of.way_is ∙ ap₂ (λ z i. entry_at z i (base.district u)) of.table_is (of.away_is s_known)

      pub guided_against : Guides nil decoded base guide (flip G) t s
      guided_against = record {
        gates = λ u l. ap (λ d. is_gate base d u) (of.home_is t_known);
        costs = λ u l. ap (cost_ahead nil decoded) (against_entry u) ∙ cost_read nil decoded table (base.district s) (base.district u) (few u l);
        ends = λ u l. ap₂ (λ w e. pair_ahead w guide.pairs e) of.way_is (against_entry u) ∙ ap (λ p. pair_ahead Backward p (entry_at table (base.district s) (base.district u))) of.pairs_is
            ∙ pair_read nil decoded table (base.district s) (base.district u) (few u l) Backward pairs;
      }
