-- What a change at one node leaves of the matches.
use Rattle.std.proofs.Common.{◌≡◌, ℕ, ◌+◌, ◌-◌, ◌*◌, ◌/◌, ◌<◌, ◌≤◌, Bool, List, length, get_or, set, None, Option, sym, ap, ◌∙◌, subst, ⊎_elim, arith, length-set, get_or-set_other, get_or-set_same, le-ltb, lt-ltb}
use Rattle.std.proofs.lemmas.Bool.{cases_eq, cases_lt}
use Rattle.std.proofs.lemmas.List.{get_or_past, get_or-replicate}
use Rattle.std.proofs.Math.ListN.{replicate, length-replicate}
use Rattle.fringe.specs.declared.place.Place.{Place}
use Rattle.winner_tree.specs.Tournaments.{entrant, out_of, winner_of, match_at, Played, Decided, DecidedBut, InOrder, InOrderBut}

-- Who comes out of every node but k is as before.
abbrev pub SameBut : {E : Type 0} → ℕ → (ℕ → E) → (ℕ → E) → Type 0
SameBut k out out' = (j : ℕ) → (j ≡ k → ⊥) → out' j ≡ out j

module _ {C T : Type 0} (thing : C → T) (leq : T → T → Bool) (n k : ℕ) (out out' : ℕ → Option (Place × C)) (same : SameBut k out out') where
  -- A match that is neither k's own nor the one above it stays as it was played.
  apart : (i : ℕ) → (i ≡ k → ⊥) → (i ≡ k / 2 → ⊥) → Played thing leq out i → Played thing leq out' i
  apart i own above played =
      rw (same i own, same (2 * i) (λ e. above (omega arith)), same (2 * i + 1) (λ e. above (omega arith))) played

  -- A change at a leaf leaves open the match above it only.
  pub leaf_changed : n ≤ k → Decided thing leq n out → DecidedBut thing leq (k / 2) n out'
  leaf_changed leaf decided i pos below above = apart i (λ e. omega arith) above (decided i pos below)

  -- Once the match at k is played again, the one above it is open in its place.
  pub played_again : 0 < k → out' k ≡ winner_of thing leq (out (2 * k)) (out (2 * k + 1)) → DecidedBut thing leq k n out → DecidedBut thing leq (k / 2) n out'
  played_again k_pos now_fair decided i pos below above =
      ⊎_elim
      (λ (e : i ≡ k). rw (e, same (2 * k) (λ e. omega arith), same (2 * k + 1) (λ e. omega arith)) now_fair)
      (λ own. apart i own above (decided i pos below own))
      (cases_eq i k)

-- Cells that were all emptied are empty, and so is what lies beyond them.
pub free_cells : {A : Type 0} (n : ℕ) {cells : List (Option A)} → cells ≡ replicate n None → (q : ℕ) → get_or cells q None ≡ None
free_cells {A} n is q =
    rw is (⊎_elim (get_or-replicate n q None None) (λ h. get_or_past (replicate n None) q None (omega (arith, length-replicate {A = Option A} n None))) (cases_lt q n))

module _ {C : Type 0} (costs : List (Option C)) (winners : List (Option (Place × C))) where
  pub out_match : (k : ℕ) → k < length costs → out_of costs winners k ≡ get_or winners k None
  out_match k below = rw (lt-ltb k (length costs) below)

  pub out_leaf : (p : ℕ) → out_of costs winners (length costs + p) ≡ entrant p (get_or costs p None)
  out_leaf p = let e : length costs + p - length costs ≡ p = omega arith in rw (le-ltb (length costs + p) (length costs) (omega arith), e)

  pub out_high : (k : ℕ) → length costs ≤ k → out_of costs winners k ≡ entrant (k - length costs) (get_or costs (k - length costs) None)
  out_high k above = rw (le-ltb k (length costs) above)

  -- A write to the row of winners changes who comes out of one node.
  pub winner_written : (k : ℕ) (w : Option (Place × C)) → SameBut k (out_of costs winners) (out_of costs (set winners k w))
  winner_written k w j other = rw (get_or-set_other winners k j w None other)

  -- A write to the row of costs changes who comes out of one leaf.
  pub cost_written : (p : ℕ) (c : Option C) → SameBut (length costs + p) (out_of costs winners) (out_of (set costs p c) winners)
  cost_written p c j other =
      ⊎_elim
      (λ (below : j < length costs). rw (length-set costs p c, lt-ltb j (length costs) below))
      (λ above. rw (length-set costs p c, le-ltb j (length costs) above, get_or-set_other costs p (j - length costs) c None (λ e. other (omega arith))))
      (cases_lt j (length costs))

module _ {C T : Type 0} (thing : C → T) (leq : T → T → Bool) (costs : List (Option C)) (winners : List (Option (Place × C))) where
  -- The rows once the match at k was played again.
  pub rows_replayed : (winners' : List (Option (Place × C))) (k : ℕ) → 0 < k → k < length costs → length winners ≡ length costs → winners' ≡ set winners k (match_at thing leq costs winners k)
      → InOrderBut thing leq k costs winners → InOrderBut thing leq (k / 2) costs winners'
  rows_replayed winners' k pos below even is order =
      let w = match_at thing leq costs winners k in
      subst (λ l. InOrderBut thing leq (k / 2) costs l) (sym is)
      (played_again thing leq (length costs) k (out_of costs winners) (out_of costs (set winners k w)) (winner_written costs winners k w) pos
      (out_match costs (set winners k w) k below ∙ get_or-set_same winners k w None (omega arith)) order)

  -- The rows once a place was written.
  pub rows_written : (p : ℕ) (c : Option C) → InOrder thing leq costs winners → InOrderBut thing leq ((length (set costs p c) + p) / 2) (set costs p c) winners
  rows_written p c order i pos below above =
      let same = length-set costs p c in
      leaf_changed thing leq (length costs) (length costs + p) (out_of costs winners) (out_of (set costs p c) winners) (cost_written costs winners p c) (omega arith) order i pos
      (omega arith) (λ e. above (omega arith))

  -- Empty rows are in order.
  pub rows_empty : ((q : ℕ) → get_or costs q None ≡ None) → ((q : ℕ) → get_or winners q None ≡ None) → InOrder thing leq costs winners
  rows_empty free idle i pos below = rw (nobody i, nobody (2 * i), nobody (2 * i + 1))
    where
      nobody : (k : ℕ) → out_of costs winners k ≡ None
      nobody k =
          ⊎_elim (λ (l : k < length costs). out_match costs winners k l ∙ idle k)
          (λ h. out_high costs winners k h ∙ ap (entrant (k - length costs)) (free (k - length costs)))
          (cases_lt k (length costs))
