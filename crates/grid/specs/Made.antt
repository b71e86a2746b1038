-- What a grid is made from, and when it is made.
use Rattle.std.specs.Prelude.{◌≡◌, ℕ, Ok, Err, Result}
use Rattle.map.specs.Grids.{Figures, InRange}
use Rattle.grid.specs.declared.grids.Grid.{Grid}
use Rattle.grid.specs.declared.refusals.Refusal.{Refusal}
use Rattle.grid.specs.declared.refusals.Refusal.TheVariants.{OutOfRange}

abbrev pub figures : ℕ → ℕ → ℕ → ℕ → ℕ → Figures
figures rows columns side seconds steepness = record { rows = rows; columns = columns; side = side; seconds = seconds; steepness = steepness }

-- The figures of a grid, from which all that it means is computed.
abbrev pub figures_of : Grid → Figures
figures_of g = figures g.rows g.columns g.side g.seconds g.steepness

-- They are in range.
abbrev pub in_range : (g : Grid) → InRange (figures_of g)
in_range g = record {
  some_rows = g.row;
  few_rows = g.low;
  some_columns = g.column;
  few_columns = g.narrow;
  some_side = g.sided;
  few_side = g.small;
  short = g.short;
  mild = g.mild;
  few_tiles = g.few;
}

-- A grid is made of figures exactly if they are in range, and is the grid of these figures.
abbrev pub Made : Figures → Result Grid Refusal → Type 0
Made f (Ok g) = InRange f × (figures_of g ≡ f)
Made f (Err e) = (InRange f → ⊥) × (e ≡ OutOfRange)
