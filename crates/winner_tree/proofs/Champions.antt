-- The winner of a tournament in order is the first of all places that are held.
use Rattle.std.proofs.Common.{◌≡◌, ℕ, zero, suc, ◌+◌, ◌-◌, ◌*◌, ◌/◌, ◌<◌, ◌≤◌, Bool, true, false, ◌⊎◌, List, length, get_or, Some, None, Option, sym, refl, ap, ◌∙◌, subst, inl, inr, ⊎_elim, arith}
use Rattle.std.proofs.lemmas.List.{get_or_past}
use Rattle.std.proofs.lemmas.Bool.{cases_eq, cases_lt, cond_both, cond-true, cond-false, eq-eqb, ne_eqb}
use Rattle.std.specs.Option.{option_map}
use Rattle.fringe.specs.Orders.{TotalOrder}
use Rattle.fringe.specs.Entries.{ahead}
use Rattle.fringe.specs.Fringes.{Least}
use Rattle.fringe.proofs.Ranks.{Ranked, entries_ranked, costs_leq, costs_less}
use Rattle.fringe.specs.declared.place.Place.{Place}
use Rattle.winner_tree.specs.Tournaments.{meaning_of, entrant, out_of, champion_of, winner_of, Decided, InOrder}
use Rattle.winner_tree.proofs.Replays.{out_leaf, out_high}

-- Who comes out of a leaf is its place, with what that holds.
entrant_held : {C : Type 0} (p : ℕ) (h : Option C) (e : Place × C) → entrant p h ≡ Some e → (e.0.0 ≡ p) × (h ≡ Some e.1)
entrant_held p None e same = absurd (cc)
entrant_held p (Some c) e same = let s : (record { 0 = p }, c) ≡ e = cc in (sym (ap (λ x. x.0.0) s), ap (λ x. Some x.1) s)

entrant_none : {C : Type 0} (p : ℕ) (h : Option C) → entrant p h ≡ None → h ≡ None
entrant_none p None same = refl
entrant_none p (Some c) same = absurd (cc)

module _ {C T : Type 0} (thing : C → T) {leq : T → T → Bool} (o : TotalOrder leq) where
  ranked : Ranked (ahead thing leq)
  ranked = entries_ranked thing o

  -- Whether x is ahead of y, where nobody is behind everybody.
  abbrev leads : Option (Place × C) → Option (Place × C) → Bool
  leads None None = true
  leads None (Some b) = false
  leads (Some a) None = true
  leads (Some a) (Some b) = ahead thing leq a b

  leads_none : (x : Option (Place × C)) → leads None x ≡ true → x ≡ None
  leads_none None e = refl
  leads_none (Some b) e = absurd (cc)

  leads_self : (x : Option (Place × C)) → leads x x ≡ true
  leads_self None = refl
  leads_self (Some a) = ranked.same a

  leads_chain : (x y z : Option (Place × C)) → leads x y ≡ true → leads y z ≡ true → leads x z ≡ true
  leads_chain None None z p q = q
  leads_chain None (Some b) None p q = refl
  leads_chain None (Some b) (Some c) p q = p
  leads_chain (Some a) y None p q = refl
  leads_chain (Some a) None (Some c) p q = absurd (cc)
  leads_chain (Some a) (Some b) (Some c) p q = ranked.chain a b c p q

  leads_left : (x y : Option (Place × C)) → leads (winner_of thing leq x y) x ≡ true
  leads_left None None = refl
  leads_left None (Some b) = refl
  leads_left (Some a) None = ranked.same a
  leads_left (Some a) (Some b) = cond_both (ahead thing leq a b) (Some a) (Some b) (λ w. leads w (Some a) ≡ true) (λ e. ranked.same a) (λ e. ranked.total a b e)

  leads_right : (x y : Option (Place × C)) → leads (winner_of thing leq x y) y ≡ true
  leads_right None y = leads_self y
  leads_right (Some a) None = refl
  leads_right (Some a) (Some b) = cond_both (ahead thing leq a b) (Some a) (Some b) (λ w. leads w (Some b) ≡ true) (λ e. e) (λ e. ranked.same b)

  -- The winner is one of the two.
  one_of : (x y : Option (Place × C)) → (winner_of thing leq x y ≡ x) ⊎ (winner_of thing leq x y ≡ y)
  one_of None y = inr refl
  one_of (Some a) None = inl refl
  one_of (Some a) (Some b) = cond_both (ahead thing leq a b) (Some a) (Some b) (λ w. (w ≡ Some a) ⊎ (w ≡ Some b)) (λ e. inl refl) (λ e. inr refl)

  module _ (n : ℕ) (out : ℕ → Option (Place × C)) (decided : Decided thing leq n out) where
    -- Who comes out of a match is ahead of either side.
    leads_below : (i k : ℕ) → 0 < i → i < n → (k ≡ 2 * i) ⊎ (k ≡ 2 * i + 1) → leads (out i) (out k) ≡ true
    leads_below i k pos below side =
        ⊎_elim
        (λ (e : k ≡ 2 * i). rw (e, decided i pos below) (leads_left (out (2 * i)) (out (2 * i + 1))))
        (λ (e : k ≡ 2 * i + 1). rw (e, decided i pos below) (leads_right (out (2 * i)) (out (2 * i + 1))))
        side

    -- Who comes out of the root is ahead of who comes out of any node: by induction on the node's number.
    root_by : (fuel k : ℕ) → k ≤ fuel → 0 < k → k < 2 * n → leads (out 1) (out k) ≡ true
    root_by zero k enough pos below = absurd (omega arith)
    root_by (suc fuel) k enough pos below =
        ⊎_elim
        (λ (e : k ≡ 1). rw e (leads_self (out 1)))
        (λ x. leads_chain (out 1) (out (k / 2)) (out k) (root_by fuel (k / 2) (omega (arith, x)) (omega (arith, x)) (omega arith))
        (leads_below (k / 2) k (omega (arith, x)) (omega arith) (⊎_elim (λ (e : k ≡ 2 * (k / 2)). inl e) (λ y. inr (omega (arith, y))) (cases_eq k (2 * (k / 2))))))
        (cases_eq k 1)

  module _ (costs : List (Option C)) (winners : List (Option (Place × C))) (order : InOrder thing leq costs winners) where
    -- Who comes out of a node stands at a leaf.
    from_leaf : (fuel k : ℕ) (e : Place × C) → 2 * length costs ≤ k + fuel → 0 < k → k < 2 * length costs → out_of costs winners k ≡ Some e → get_or costs e.0.0 None ≡ Some e.1
    from_leaf zero k e enough pos below came = absurd (omega arith)
    from_leaf (suc fuel) k e enough pos below came =
        ⊎_elim
        (λ (m : k < length costs). ⊎_elim
        (λ s. from_leaf fuel (2 * k) e (omega arith) (omega arith) (omega arith) (sym s ∙ sym (order k pos m) ∙ came))
        (λ s. from_leaf fuel (2 * k + 1) e (omega arith) (omega arith) (omega arith) (sym s ∙ sym (order k pos m) ∙ came))
        (one_of (out_of costs winners (2 * k)) (out_of costs winners (2 * k + 1))))
        (λ l. let h = entrant_held (k - length costs) (get_or costs (k - length costs) None) e (sym (out_high costs winners k l) ∙ came) in rw h.0 h.1)
        (cases_lt k (length costs))

    -- Who comes out of the root is ahead of who comes out of any leaf.
    root_leads : (q : ℕ) → q < length costs → leads (out_of costs winners 1) (entrant q (get_or costs q None)) ≡ true
    root_leads q below =
        rw (← out_leaf costs winners q)
        (root_by (length costs) (out_of costs winners) order (length costs + q) (length costs + q) (omega arith) (omega arith) (omega arith))

    inside : (q : ℕ) (d : C) → get_or costs q None ≡ Some d → q < length costs
    inside q d e = ⊎_elim (λ l. l) (λ l. absurd (let g = get_or_past costs q None l in cc)) (cases_lt q (length costs))

    none_held : None ≡ out_of costs winners 1 → (q : ℕ) → get_or costs q None ≡ None
    none_held nobody q =
        ⊎_elim
        (λ (l : q < length costs). entrant_none q (get_or costs q None) (leads_none (entrant q (get_or costs q None)) (rw nobody (root_leads q l))))
        (λ l. get_or_past costs q None l)
        (cases_lt q (length costs))

    ahead_all : (r : Place × C) → Some r ≡ out_of costs winners 1 → (q : ℕ) (d : C) → get_or costs q None ≡ Some d → ahead thing leq r (record { 0 = q }, d) ≡ true
    ahead_all r won q d held =
        let l = root_leads q (inside q d held) in
        subst (λ h. leads (Some r) (entrant q h) ≡ true) held (subst (λ w. leads w (entrant q (get_or costs q None)) ≡ true) (sym won) l)

    root_first : (w : Option (Place × C)) → 0 < length costs → w ≡ out_of costs winners 1 → Least thing leq (meaning_of costs) w
    root_first None some won = none_held won
    root_first (Some r) some won = record {
      there = ap (option_map thing) (from_leaf (2 * length costs) 1 r (omega arith) (omega arith) (omega arith) (sym won));
      least = λ q d held. costs_leq thing leq r (record { 0 = q }, d) (ahead_all r won q d held);
      lowest = λ q d held lower. costs_less thing leq r (record { 0 = q }, d) (ahead_all r won q d held) lower;
    }

    -- The winner is what a fringe with this row of costs has for its least.
    pub champion_least : (w : Option (Place × C)) → w ≡ champion_of costs winners → Least thing leq (meaning_of costs) w
    champion_least w won =
        ⊎_elim
        (λ (none : length costs ≡ 0). subst (λ x. Least thing leq (meaning_of costs) x) (sym (won ∙ cond-true _ _ _ (eq-eqb _ 0 none))) (λ q. get_or_past costs q None (omega arith)))
        (λ some. root_first w (omega (arith, some)) (won ∙ cond-false _ _ _ (ne_eqb _ 0 some)))
        (cases_eq (length costs) 0)
