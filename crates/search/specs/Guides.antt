-- What a side reads in the district table.
use Rattle.std.specs.Prelude.{◌≡◌, ℕ, ◌<◌, Bool, cond, ◌&&◌, Some, None, Option, ◌==◌}
use Rattle.std.proofs.Math.Option.{Option as Maybe, none}
use Rattle.table.specs.declared.entry.Entry.{Entry}
use Rattle.table.specs.declared.tables.Table.{Table}
use Rattle.table.specs.Entries.{entry_at}
use Rattle.map.specs.Model.{MapModel}
use Rattle.routes.specs.Search.{Given, turn_pair, own}
use Rattle.routes.specs.Asking.{is_border}
use Rattle.turns.specs.declared.findings.Between.{Between}
use Rattle.search.specs.declared.guides.Guide.{Guide}
use Rattle.search.specs.declared.guides.Way.{Way}
use Rattle.search.specs.declared.guides.Way.TheVariants.{Forward, Backward}
use Rattle.table.specs.Views.{ends_of}

-- A pair as the side meets it: its own end first.
abbrev pub facing : Way → Maybe (ℕ × ℕ) → Maybe (ℕ × ℕ)
facing Forward pair = pair
facing Backward pair = turn_pair pair

-- The entry between the district `here` of a place and the district `away` of the other side's start.
abbrev pub entry_ahead : Way → Table → ℕ → ℕ → Option Entry
entry_ahead Forward table here away = entry_at table here away
entry_ahead Backward table here away = entry_at table away here

-- The cost of an entry. Where there is none it counts as zero.
abbrev pub cost_ahead : {K : Type 0} → K → (ℕ → K) → Option Entry → K
cost_ahead zero decoded None = zero
cost_ahead zero decoded (Some e) = decoded e.number

-- The pair of an entry, if it may be used.
abbrev pub pair_ahead : Way → Bool → Option Entry → Maybe (ℕ × ℕ)
pair_ahead way pairs None = none
pair_ahead way pairs (Some e) = cond pairs (facing way (ends_of e.pair)) none

-- The place u is a border place of the district d.
abbrev pub is_gate : MapModel → ℕ → ℕ → Bool
is_gate base d u = is_border base u && base.district u == d

-- What was read is what the entry says.
pub record Reads {K : Type 0} (zero : K) (decoded : ℕ → K) (way : Way) (pairs : Bool) (entry : Option Entry) (read : Between K) : Type 0 where
  pub cost_is : read.cost ≡ cost_ahead zero decoded entry
  pub pair_is : ends_of read.pair ≡ pair_ahead way pairs entry

-- A guide, over a base map that means `base`, by whose readings a side that starts at s, and whose other side starts at t,
-- searches what G gives.
pub record Guides {K B : Type 0} (zero : K) (decoded : ℕ → K) (base : MapModel) (guide : Guide B) (G : Given K) (s t : ℕ) : Type 0 where
  pub gates : (u : ℕ) → u < base.places → is_gate base guide.home.0 u ≡ own G s u
  pub costs : (u : ℕ) → u < base.places →
      cost_ahead zero decoded (entry_ahead guide.way guide.table.now (base.district u) guide.away.0) ≡ G.entry (G.district u) (G.district t)
  pub ends : (u : ℕ) → u < base.places →
      pair_ahead guide.way guide.pairs (entry_ahead guide.way guide.table.now (base.district u) guide.away.0) ≡ G.pair (G.district u) (G.district t)

-- A guide for a side that starts at s and whose other side starts at t: over the base map `on`, which means `base`, with that
-- table, and with the districts of both places.
pub record GuideOf {B : Type 0} (way : Way) (base : MapModel) (on : B) (table : Table) (pairs : Bool) (s t : ℕ) (guide : Guide B) : Type 0 where
  pub way_is : guide.way ≡ way
  pub base_is : guide.base.now ≡ on
  pub table_is : guide.table.now ≡ table
  pub pairs_is : guide.pairs ≡ pairs
  pub home_is : s < base.places → guide.home.0 ≡ base.district s
  pub away_is : t < base.places → guide.away.0 ≡ base.district t
