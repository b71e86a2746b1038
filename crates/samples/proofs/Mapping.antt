-- The maps of the samples keep the rules of maps.
use Rattle.std.proofs.Common.{◌≡◌, ℕ, zero, suc, ◌<◌, Bool, true, ◌&&◌, List, [], ◌∷◌, map, length, get_or, Some, None, refl, arith}
use Rattle.std.proofs.lemmas.Bool.{and_parts}
use Rattle.map.specs.declared.roads.Road.{Road}
use Rattle.map.specs.Model.{WellFormed}
use Rattle.map.proofs.Grids.{grid_keeps_rules}
use Rattle.samples.specs.Maps.{Plan, map_of, grid, plans, maps, AllFit}
use Rattle.samples.proofs.Fitting.{keeps_rules, rules_kept}

-- a number with a road is below the count of roads
numbered : (roads : List Road) (r : ℕ) (x : Road) → get_or (map Some roads) r None ≡ Some x → r < length roads
numbered [] r x e = absurd (let z : ◌≡◌ {A = ℕ} 0 1 = cc in omega arith)
numbered (y ∷ roads) zero x e = omega arith
numbered (y ∷ roads) (suc r) x e = omega (arith, numbered roads r x e)

-- the maps of plans that pass the test
abbrev all_keep : List Plan → Bool
all_keep [] = true
all_keep (p ∷ ps) = keeps_rules (map_of p) && all_keep ps

plans_fit : (ps : List Plan) → all_keep ps ≡ true → AllFit (map map_of ps)
plans_fit [] t = tt
plans_fit (p ∷ ps) t =
    let q = and_parts (keeps_rules (map_of p)) (all_keep ps) t in
    (rules_kept (map_of p) (numbered p.roads) q.0, plans_fit ps q.1)

-- the grid
grid_fits : WellFormed grid
grid_fits = grid_keeps_rules _ (record {
  some_rows = omega arith;
  few_rows = omega arith;
  some_columns = omega arith;
  few_columns = omega arith;
  some_side = omega arith;
  few_side = omega arith;
  short = omega arith;
  mild = omega arith;
  few_tiles = omega arith;
})

-- all of them
pub all_fit : AllFit maps
all_fit = (grid_fits, plans_fit plans refl)
