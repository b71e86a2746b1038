-- A grid whose figures are in range keeps the rules of maps.
use Rattle.std.proofs.Common.{◌≡◌, ℕ, zero, suc, ◌+◌, ◌-◌, ◌*◌, ◌/◌, ◌%◌, ◌<◌, ◌≤◌, Bool, true, false, ltb, List, [], ◌∷◌, map, length, get_or, Some, None, Option, sym, refl, ap, ◌∙◌, subst, inl, inr, add-mul, one-mul, le-div_iff_mul-le, zero-mul, div-mul-le_self, mul-div_cancel, arith}
use Rattle.std.specs.Option.{option_map}
use Rattle.std.proofs.lemmas.Nat.{div-add-mod', mul-le, mul-add-lt, div-mul-add, mod-mul-add, div_below, mod_below}
use Rattle.std.proofs.lemmas.Bool.{cases_Bool, ltb-true, lt-ltb}
use Rattle.fringe.specs.declared.place.Place.{Place}
use Rattle.map.specs.declared.directions.Direction.{Direction}
use Rattle.map.specs.declared.directions.Direction.TheVariants.{North, West, East, South}
use Rattle.map.specs.declared.roads.Road.{Road}
use Rattle.map.specs.Model.{WellFormed, RoadFits, Lists, Touches, Stands, Inhabited}
use Rattle.map.specs.Grids.{Figures, InRange, place_at, row_of, column_of, place_count, tiles, district_of, district_count, when, neighbour, directions, direction_number, direction_of, opposite, road_number, road_between, grid_road, leaving, arriving, present, grid_model}

-- ## What is present

-- x is what one of the options holds
record Held (os : List (Option ℕ)) (x : ℕ) : Type 0 where
  pub at : ℕ
  pub holds : get_or os at None ≡ Some x

present_held : (os : List (Option ℕ)) (j : ℕ) → j < length (present os) → Held os (get_or (present os) j 0)
present_held [] j l = absurd (omega arith)
present_held (None ∷ os) j l = let h = present_held os j l in record { at = suc h.at; holds = h.holds }
present_held (Some x ∷ os) zero l = record { at = 0; holds = refl }
present_held (Some x ∷ os) (suc j) l = let h = present_held os j (omega arith) in record { at = suc h.at; holds = h.holds }

none_held : (x : ℕ) (P : Type 0) → ◌≡◌ {A = Option ℕ} None (Some x) → P
none_held x P e = let z : ◌≡◌ {A = ℕ} 0 1 = cc in absurd (omega arith)

-- whatever an option holds stands in the list
present_stands : (os : List (Option ℕ)) (k x : ℕ) → get_or os k None ≡ Some x → Stands (present os) x
present_stands [] k x e = none_held x _ e
present_stands (None ∷ os) zero x e = none_held x _ e
present_stands (None ∷ os) (suc k) x e = let s = present_stands os k x e in record { index = s.index; within = s.within; same = s.same }
present_stands (Some y ∷ os) zero x e = record { index = 0; within = omega arith; same = cc }
present_stands (Some y ∷ os) (suc k) x e = let s = present_stands os k x e in let w = s.within in
    record { index = suc s.index; within = omega arith; same = s.same }

-- no two of the options hold the same
abbrev Distinct : List (Option ℕ) → Type 0
Distinct os = (k l x : ℕ) → get_or os k None ≡ Some x → get_or os l None ≡ Some x → k ≡ l

-- then nothing stands in the list twice
present_once : (os : List (Option ℕ)) → Distinct os → (i j : ℕ) → i < length (present os) → j < length (present os) →
    get_or (present os) i 0 ≡ get_or (present os) j 0 → i ≡ j
present_once [] d i j k l e = absurd (omega arith)
present_once (None ∷ os) d i j k l e = present_once os (λ a b x p q. let h = d (suc a) (suc b) x p q in omega arith) i j k l e
present_once (Some x ∷ os) d zero zero k l e = refl
present_once (Some x ∷ os) d zero (suc j) k l e = let h = present_held os j (omega arith) in
    let z = d 0 (suc h.at) x refl (h.holds ∙ ap Some (sym e)) in absurd (omega arith)
present_once (Some x ∷ os) d (suc i) zero k l e = let h = present_held os i (omega arith) in
    let z = d 0 (suc h.at) x refl (h.holds ∙ ap Some e) in absurd (omega arith)
present_once (Some x ∷ os) d (suc i) (suc j) k l e =
    ap suc (present_once os (λ a b x p q. let h = d (suc a) (suc b) x p q in omega arith) i j (omega arith) (omega arith) e)

-- ## Directions

-- the k-th of what g gives in the four directions is x
record Toward (g : Direction → Option ℕ) (k x : ℕ) : Type 0 where
  pub way : Direction
  pub numbered : direction_number way ≡ k
  pub gives : g way ≡ Some x

toward : (g : Direction → Option ℕ) (k x : ℕ) → get_or (map g directions) k None ≡ Some x → Toward g k x
toward g zero x e = record { way = North; numbered = refl; gives = e }
toward g (suc zero) x e = record { way = West; numbered = refl; gives = e }
toward g (suc (suc zero)) x e = record { way = East; numbered = refl; gives = e }
toward g (suc (suc (suc zero))) x e = record { way = South; numbered = refl; gives = e }
toward g (suc (suc (suc (suc k)))) x e = none_held x _ e

at_direction : (g : Direction → Option ℕ) (d : Direction) → get_or (map g directions) (direction_number d) None ≡ g d
at_direction g North = refl
at_direction g West = refl
at_direction g East = refl
at_direction g South = refl

-- what g gives in different directions differs, if a direction can be told from it
apart : (g : Direction → Option ℕ) (tell : ℕ → ℕ) → ((d : Direction) (x : ℕ) → g d ≡ Some x → tell x ≡ direction_number d) → Distinct (map g directions)
apart g tell h k l x p q = let a = toward g k x p in let b = toward g l x q in
    sym a.numbered ∙ sym (h a.way x a.gives) ∙ h b.way x b.gives ∙ b.numbered

opposite_twice : (d : Direction) → opposite (opposite d) ≡ d
opposite_twice North = refl
opposite_twice West = refl
opposite_twice East = refl
opposite_twice South = refl

number_opposite : (d : Direction) → direction_number (opposite d) + direction_number d ≡ 3
number_opposite North = refl
number_opposite West = refl
number_opposite East = refl
number_opposite South = refl

number_below : (d : Direction) → direction_number d < 4
number_below North = omega arith
number_below West = omega arith
number_below East = omega arith
number_below South = omega arith

direction_again : (d : Direction) → direction_of (direction_number d) ≡ d
direction_again North = refl
direction_again West = refl
direction_again East = refl
direction_again South = refl

number_direction : (k : ℕ) → k < 4 → direction_number (direction_of k) ≡ k
number_direction zero l = refl
number_direction (suc zero) l = refl
number_direction (suc (suc zero)) l = refl
number_direction (suc (suc (suc zero))) l = refl
number_direction (suc (suc (suc (suc k)))) l = absurd (omega arith)

-- what an option gives once it is mapped
record Mapped {A : Type 0} (g : ℕ → A) (o : Option ℕ) (y : A) : Type 0 where
  pub from : ℕ
  pub was : o ≡ Some from
  pub is : g from ≡ y

unmapped : {A : Type 0} (g : ℕ → A) (o : Option ℕ) (y : A) → option_map g o ≡ Some y → Mapped g o y
unmapped g None y e = let z : ◌≡◌ {A = ℕ} 0 1 = cc in absurd (omega arith)
unmapped g (Some x) y e = record { from = x; was = refl; is = cc }

-- ## Steps

-- from the row r and the column c one comes to the row s and the column e
abbrev Step : Direction → ℕ → ℕ → ℕ → ℕ → Type 0
Step North r c s e = (s + 1 ≡ r) × (e ≡ c)
Step West r c s e = (s ≡ r) × (e + 1 ≡ c)
Step East r c s e = (s ≡ r) × (e ≡ c + 1)
Step South r c s e = (s ≡ r + 1) × (e ≡ c)

step_back : (d : Direction) (r c s e : ℕ) → Step d r c s e → Step (opposite d) s e r c
step_back North r c s e h = let a = h.0 in let b = h.1 in (omega arith, omega arith)
step_back West r c s e h = let a = h.0 in let b = h.1 in (omega arith, omega arith)
step_back East r c s e h = let a = h.0 in let b = h.1 in (omega arith, omega arith)
step_back South r c s e h = let a = h.0 in let b = h.1 in (omega arith, omega arith)

step_moves : (d : Direction) (r c s e : ℕ) → Step d r c s e → r ≡ s → c ≡ e → ⊥
step_moves North r c s e h p q = let a = h.0 in omega arith
step_moves West r c s e h p q = let a = h.1 in omega arith
step_moves East r c s e h p q = let a = h.1 in omega arith
step_moves South r c s e h p q = let a = h.0 in omega arith

-- three times the row and once the column change by -3, -1, 1 or 3, so the direction can be told from both ends
step_tells : (d : Direction) (r c s e : ℕ) → Step d r c s e → s + s + s + e + 4 ≡ r + r + r + c + 1 + direction_number d + direction_number d
step_tells North r c s e h = let a = h.0 in let b = h.1 in omega arith
step_tells West r c s e h = let a = h.0 in let b = h.1 in omega arith
step_tells East r c s e h = let a = h.0 in let b = h.1 in omega arith
step_tells South r c s e h = let a = h.0 in let b = h.1 in omega arith

-- ## Tiles

-- the tile i is one of those that cover the length n exactly if it begins below n
tile_start : (n side i : ℕ) → 1 ≤ side → i < tiles n side → i * side < n
tile_start n side i s l =
    let h : (i + 1) * side ≤ n + side - 1 = (le-div_iff_mul-le {k = side} {x = i + 1} {y = n + side - 1} s).0 (omega arith) in
    omega (arith, add-mul i 1 side, one-mul side)

tile_covers : (n side i : ℕ) → 1 ≤ side → i * side < n → i < tiles n side
tile_covers n side i s l =
    let e : (i + 1) * side ≤ n + side - 1 = omega (arith, add-mul i 1 side, one-mul side) in
    let h : i + 1 ≤ tiles n side = (le-div_iff_mul-le {k = side} {x = i + 1} {y = n + side - 1} s).1 e in
    omega arith

tile_known : (n side i : ℕ) → 1 ≤ side → i < n → i / side < tiles n side
tile_known n side i s l = tile_covers n side (i / side) s (omega (arith, div-mul-le_self i side))

some_tiles : (n side : ℕ) → 1 ≤ side → 1 ≤ n → 1 ≤ tiles n side
some_tiles n side s l = tile_covers n side 0 s (omega (arith, zero-mul side))

-- ## Rows and columns

-- q lies next to p in the direction d
record Next (f : Figures) (d : Direction) (p q : ℕ) : Type 0 where
  pub known : q < place_count f
  pub step : Step d (row_of f p) (column_of f p) (row_of f q) (column_of f q)

module _ (f : Figures) (range : InRange f) where
  place_known : (r c : ℕ) → r < f.rows → c < f.columns → place_at f r c < place_count f
  place_known r c h k = omega (arith, mul-add-lt r f.columns c f.rows h k)

  pub few_places : place_count f ≤ 1024
  few_places = mul-le f.rows f.columns 32 32 range.few_rows range.few_columns

  row_place : (r c : ℕ) → c < f.columns → row_of f (place_at f r c) ≡ r
  row_place r c h = div-mul-add r f.columns c h

  column_place : (r c : ℕ) → c < f.columns → column_of f (place_at f r c) ≡ c
  column_place r c h = mod-mul-add r f.columns c h

  place_of : (p : ℕ) → place_at f (row_of f p) (column_of f p) ≡ p
  place_of p = div-add-mod' p f.columns

  pub row_known : (p : ℕ) → p < place_count f → row_of f p < f.rows
  row_known p h = div_below p f.columns f.rows range.some_columns h

  pub column_known : (p : ℕ) → column_of f p < f.columns
  column_known p = mod_below p f.columns range.some_columns

  -- the place in the row r and the column c lies next to p if one step leads there
  there : (d : Direction) (p r c : ℕ) → r < f.rows → c < f.columns → Step d (row_of f p) (column_of f p) r c → Next f d p (place_at f r c)
  there d p r c h k s = record { known = place_known r c h k; step = rw (row_place r c k, column_place r c k) s }

  there_if : (d : Direction) (p q : ℕ) (test : Bool) (r c : ℕ) → when test (place_at f r c) ≡ Some q →
      (test ≡ true → (r < f.rows) × (c < f.columns) × Step d (row_of f p) (column_of f p) r c) → Next f d p q
  there_if d p q true r c e h = let s : place_at f r c ≡ q = cc in let k = h refl in subst (Next f d p) s (there d p r c k.0 k.1 k.2)
  there_if d p q false r c e h = none_held q _ e

  next : (d : Direction) (p q : ℕ) → p < place_count f → neighbour f p d ≡ Some q → Next f d p q
  next North p q l e = there_if North p q _ _ _ e λ t.
      let h = ltb-true _ _ t in let k = row_known p l in let m = column_known p in (omega arith, m, (omega arith, refl))
  next West p q l e = there_if West p q _ _ _ e λ t.
      let h = ltb-true _ _ t in let k = row_known p l in let m = column_known p in (k, omega arith, (refl, omega arith))
  next East p q l e = there_if East p q _ _ _ e λ t.
      let h = ltb-true _ _ t in let k = row_known p l in (k, h, (refl, refl))
  next South p q l e = there_if South p q _ _ _ e λ t.
      let h = ltb-true _ _ t in let m = column_known p in (h, m, (refl, refl))

  pub neighbour_known : (d : Direction) (p q : ℕ) → p < place_count f → neighbour f p d ≡ Some q → q < place_count f
  neighbour_known d p q l e = (next d p q l e).known

  same_place : (r c q : ℕ) → r ≡ row_of f q → c ≡ column_of f q → place_at f r c ≡ q
  same_place r c q h k = rw (h, k) (place_of q)

  -- the neighbours are the places next to a place
  neighbour_next : (d : Direction) (p q : ℕ) → Next f d p q → neighbour f p d ≡ Some q
  neighbour_next North p q n = let s = n.step in let a = s.0 in let b = s.1 in
      rw (lt-ltb 0 (row_of f p) (omega arith)) (ap Some (same_place _ _ q (omega arith) (sym b)))
  neighbour_next West p q n = let s = n.step in let a = s.0 in let b = s.1 in
      rw (lt-ltb 0 (column_of f p) (omega arith)) (ap Some (same_place _ _ q (sym a) (omega arith)))
  neighbour_next East p q n = let s = n.step in let a = s.0 in let b = s.1 in let k = column_known q in
      rw (lt-ltb (column_of f p + 1) f.columns (omega arith)) (ap Some (same_place _ _ q (sym a) (sym b)))
  neighbour_next South p q n = let s = n.step in let a = s.0 in let b = s.1 in let k = row_known q n.known in
      rw (lt-ltb (row_of f p + 1) f.rows (omega arith)) (ap Some (same_place _ _ q (sym a) (sym b)))

  -- who has a neighbour is its neighbour in the opposite direction
  back : (d : Direction) (p q : ℕ) → p < place_count f → neighbour f p d ≡ Some q → neighbour f q (opposite d) ≡ Some p
  back d p q l e = let n = next d p q l e in neighbour_next (opposite d) q p (record { known = l; step = step_back d _ _ _ _ n.step })

  -- a place has two different places on two different sides, and never itself
  one_way : (d e : Direction) (p q : ℕ) → p < place_count f → neighbour f p d ≡ Some q → neighbour f p e ≡ Some q → d ≡ e
  one_way d e p q l h k =
      let a = step_tells d _ _ _ _ (next d p q l h).step in
      let b = step_tells e _ _ _ _ (next e p q l k).step in
      let s : direction_number d ≡ direction_number e = omega arith in
      sym (direction_again d) ∙ ap direction_of s ∙ direction_again e

  elsewhere : (d : Direction) (p q : ℕ) → p < place_count f → neighbour f p d ≡ Some q → p ≡ q → ⊥
  elsewhere d p q l h s = step_moves d _ _ _ _ (next d p q l h).step (ap (row_of f) s) (ap (column_of f) s)

  -- ## Roads

  place_of_number : (p : ℕ) (d : Direction) → road_number p d / 4 ≡ p
  place_of_number p d = let h = number_below d in omega arith

  way_of_number : (p : ℕ) (d : Direction) → road_number p d % 4 ≡ direction_number d
  way_of_number p d = let h = number_below d in omega arith

  number_again : (r : ℕ) → road_number (r / 4) (direction_of (r % 4)) ≡ r
  number_again r = let h = number_direction (r % 4) (omega arith) in omega arith

  -- the number r has the road from its place to the neighbour q
  record Leads (r : ℕ) (x : Road) : Type 0 where
    pub below : r / 4 < place_count f
    pub to : ℕ
    pub beside : neighbour f (r / 4) (direction_of (r % 4)) ≡ Some to
    pub is : road_between f (r / 4) to ≡ x

  leads : (r : ℕ) (x : Road) → grid_road f r ≡ Some x → Leads r x
  leads r x e = elim (cases_Bool (ltb r (4 * place_count f))) [
    | inl t ↦
        let l = ltb-true r (4 * place_count f) t in
        let m = unmapped (road_between f (r / 4)) (neighbour f (r / 4) (direction_of (r % 4))) x (rw t at e) in
        record { below = omega arith; to = m.from; beside = m.was; is = m.is }
    | inr t ↦ let k : ◌≡◌ {A = Option Road} None (Some x) = rw t at e in let z : ◌≡◌ {A = ℕ} 0 1 = cc in absurd (omega arith)
  ]

  road_there : (d : Direction) (p q : ℕ) → p < place_count f → neighbour f p d ≡ Some q → grid_road f (road_number p d) ≡ Some (road_between f p q)
  road_there d p q l e =
      let h = number_below d in
      rw (lt-ltb (road_number p d) (4 * place_count f) (omega arith), place_of_number p d, way_of_number p d, direction_again d, e)

  -- ## Lists of roads

  -- what g gives in the four directions are the numbers of the roads that touch p with an end
  record Sides (end_of : Road → Place) (p : ℕ) (g : Direction → Option ℕ) : Type 0 where
    pub tell : ℕ → ℕ
    pub told : (d : Direction) (x : ℕ) → g d ≡ Some x → tell x ≡ direction_number d
    pub side : (d : Direction) (r : ℕ) → g d ≡ Some r → Touches (grid_model f) end_of p r
    pub way : (r : ℕ) (x : Road) → grid_road f r ≡ Some x → (end_of x).0 ≡ p → Direction
    pub finds : (r : ℕ) (x : Road) (e : grid_road f r ≡ Some x) (t : (end_of x).0 ≡ p) → g (way r x e t) ≡ Some r

  sides_listed : (end_of : Road → Place) (p : ℕ) (g : Direction → Option ℕ) → Sides end_of p g →
      Lists (grid_model f) end_of p (present (map g directions))
  sides_listed end_of p g s = record {
    only = λ j l. let h = present_held (map g directions) j l in let t = toward g h.at _ h.holds in s.side t.way _ t.gives;
    once = present_once (map g directions) (apart g s.tell s.told);
    all = λ r x e t. present_stands (map g directions) (direction_number (s.way r x e t)) r (at_direction g (s.way r x e t) ∙ s.finds r x e t);
  }

  departures_listed : (p : ℕ) → p < place_count f → Lists (grid_model f) (λ x. x.start) p (present (map (leaving f p) directions))
  departures_listed p l = sides_listed (λ x. x.start) p (leaving f p) (record {
    tell = λ x. x % 4;
    told = λ d x e. let m = unmapped (λ q. road_number p d) (neighbour f p d) x e in
        ap (λ n. n % 4) (sym m.is) ∙ way_of_number p d;
    side = λ d r e. let m = unmapped (λ q. road_number p d) (neighbour f p d) r e in
        subst (Touches (grid_model f) (λ x. x.start) p) m.is
        (record { is = road_between f p m.from; there = road_there d p m.from l m.was; touches = refl });
    way = λ r x e t. direction_of (r % 4);
    finds = λ r x e t.
        let k = leads r x e in
        let s : r / 4 ≡ p = ap (λ (y : Road). y.start.0) k.is ∙ t in
        let b : neighbour f p (direction_of (r % 4)) ≡ Some k.to = ap (λ n. neighbour f n (direction_of (r % 4))) (sym s) ∙ k.beside in
        ap (option_map (λ q. road_number p (direction_of (r % 4)))) b ∙ ap Some (ap (λ n. road_number n (direction_of (r % 4))) (sym s) ∙ number_again r);
  })

  arrivals_listed : (p : ℕ) → p < place_count f → Lists (grid_model f) (λ x. x.end) p (present (map (arriving f p) directions))
  arrivals_listed p l = sides_listed (λ x. x.end) p (arriving f p) (record {
    tell = λ x. 3 - x % 4;
    told = λ d x e. let m = unmapped (λ q. road_number q (opposite d)) (neighbour f p d) x e in
        let w = way_of_number m.from (opposite d) in
        let s = ap (λ n. n % 4) m.is in
        let h = number_opposite d in
        omega arith;
    side = λ d r e. let m = unmapped (λ q. road_number q (opposite d)) (neighbour f p d) r e in
        subst (Touches (grid_model f) (λ x. x.end) p) m.is
        (record { is = road_between f m.from p; there = road_there (opposite d) m.from p (neighbour_known d p m.from l m.was) (back d p m.from l m.was); touches = refl });
    way = λ r x e t. opposite (direction_of (r % 4));
    finds = λ r x e t.
        let k = leads r x e in
        let s : k.to ≡ p = ap (λ (y : Road). y.end.0) k.is ∙ t in
        let b : neighbour f k.to (opposite (direction_of (r % 4))) ≡ Some (r / 4) = back (direction_of (r % 4)) (r / 4) k.to k.below k.beside in
        let b' : neighbour f p (opposite (direction_of (r % 4))) ≡ Some (r / 4) = rw s at b in
        ap (option_map (λ q. road_number q (opposite (opposite (direction_of (r % 4)))))) b'
        ∙ ap Some (ap (road_number (r / 4)) (opposite_twice (direction_of (r % 4))) ∙ number_again r);
  })

  -- ## Districts

  inhabited : (d : ℕ) → d < district_count f → Inhabited (grid_model f) d
  inhabited d l =
      let w = tiles f.columns f.side in
      let some = some_tiles f.columns f.side range.some_side range.some_columns in
      let i : d / w < tiles f.rows f.side = div_below d w (tiles f.rows f.side) some (omega arith) in
      let j : d % w < w = mod_below d w some in
      let r : d / w * f.side < f.rows = tile_start f.rows f.side (d / w) range.some_side i in
      let c : d % w * f.side < f.columns = tile_start f.columns f.side (d % w) range.some_side j in
      record {
        place = place_at f (d / w * f.side) (d % w * f.side);
        inhabits = record {
          known = place_known _ _ r c;
          there = rw (row_place _ _ c, column_place _ _ c, mul-div_cancel (d / w) range.some_side, mul-div_cancel (d % w) range.some_side)
              (div-add-mod' d w);
        };
      }

  pub district_known : (p : ℕ) → p < place_count f → district_of f p < district_count f
  district_known p l = mul-add-lt _ (tiles f.columns f.side) _ (tiles f.rows f.side)
      (tile_known f.rows f.side (row_of f p) range.some_side (row_known p l))
      (tile_known f.columns f.side (column_of f p) range.some_side (column_known p))

-- A grid whose figures are in range is a map that keeps the rules.
pub grid_keeps_rules : (f : Figures) → InRange f → WellFormed (grid_model f)
grid_keeps_rules f h = record {
  some_place = mul-le 1 1 f.rows f.columns h.some_rows h.some_columns;
  few_places = few_places f h;
  some_district = mul-le 1 1 (tiles f.columns f.side) (tiles f.rows f.side)
      (some_tiles f.columns f.side h.some_side h.some_columns) (some_tiles f.rows f.side h.some_side h.some_rows);
  few_districts = h.few_tiles;
  few_roads = let k = few_places f h in omega arith;
  district_known = district_known f h;
  no_empty_district = inhabited f h;
  road_fits = λ r x e. let k = leads f h r x e in let l = k.below in
      subst (RoadFits (grid_model f) r) k.is (record {
        numbered = omega arith;
        start_known = l;
        end_known = neighbour_known f h _ _ _ l k.beside;
        no_loop = elsewhere f h _ _ _ l k.beside;
        short = h.short;
        mild = h.mild;
      });
  alone = λ r s x y e g i j.
      let a = leads f h r x e in
      let b = leads f h s y g in
      let p : r / 4 ≡ s / 4 = ap (λ (z : Road). z.start.0) a.is ∙ i ∙ sym (ap (λ (z : Road). z.start.0) b.is) in
      let q : b.to ≡ a.to = ap (λ (z : Road). z.end.0) b.is ∙ sym j ∙ sym (ap (λ (z : Road). z.end.0) a.is) in
      let c : neighbour f (s / 4) (direction_of (s % 4)) ≡ Some a.to = b.beside ∙ ap Some q in
      let d : neighbour f (r / 4) (direction_of (s % 4)) ≡ Some a.to = rw p c in
      sym (number_again f h r) ∙ ap (road_number (r / 4)) (one_way f h _ _ (r / 4) a.to a.below a.beside d)
      ∙ ap (λ n. road_number n (direction_of (s % 4))) p ∙ number_again f h s;
  departs = departures_listed f h;
  arrives = arrivals_listed f h;
}
