-- What is left of a search, turn by turn.
use Rattle.std.proofs.Common.{◌≡◌, ℕ, suc, ◌+◌, ◌-◌, ◌<◌, ◌≤◌, Bool, List, length, sym, refl, ap, ◌∙◌, subst, arith}
use Rattle.fringe.specs.Fringes.{Meaning}
use Rattle.map.specs.Model.{MapModel}
use Rattle.map.specs.Turned.{turned_round}
use Rattle.routes.specs.declared.labels.Label.{Label}
use Rattle.routes.specs.Labels.{start_at, labels_view}
use Rattle.routes.specs.Search.{Ops, ops_of, Given, Both, flip, other}
use Rattle.routes.specs.Search as search_spec
use Rattle.routes.proofs.RunParts.{flip_flip, run_stop, run_step, step_turns}
use Rattle.halves.specs.Agreement.{Agree}
use Rattle.turns.specs.declared.findings.Findings.{Findings}
use Rattle.turns.specs.Findings.{Shown}
use Rattle.turns.specs.Fits.{Fits}
use Rattle.search.specs.Turns.{Turning, Over, Moved}
use Rattle.search.specs.Rounds.{swapped, Left}

-- seen from the other side
pub shown_other : {K : Type 0} (f g : ℕ → ℕ) (mine theirs : List (Label K)) (found : Findings K) (x : Both K) → Shown f g mine theirs found x → Shown g f theirs mine (swapped found) (other x)
shown_other f g mine theirs found x h = record {
  labels = h.beside.others;
  beside = record {
    gate = h.beside.other_gate;
    others = h.labels;
    other_gate = h.beside.gate;
    best = h.beside.best;
    upper = h.beside.upper;
    meet = h.beside.meet;
    expansions = h.beside.expansions;
    prunings = h.beside.prunings;
  };
}

module _ {K T : Type 0} (thing : K → T) (leq : T → T → Bool) (O : Ops K) where
  -- The state before a turn of the side whose map means m, with so many turns left, which lead to y, and so many taken.
  pub record Rest (m m' : MapModel) (G : Given K) (s t left taken : ℕ) (y : Both K) (V : Type 0) (near : Meaning K) (W : Type 0) (far : Meaning K)
      (mine theirs : List (Label K)) (found : Findings K) : Type 0 where
    pub state : Both K
    pub shown : Shown (start_at m) (start_at m') mine theirs found state
    pub agree : Agree thing leq V near mine
    pub others_agree : Agree thing leq W far theirs
    pub sized : length mine ≡ m.places
    pub others_sized : length theirs ≡ m.places
    pub counted : state.expansions + state.prunings ≤ taken
    pub leads : search_spec.run O left G s t state ≡ y

  -- What was found once no turn is taken any more.
  pub record Final (m m' : MapModel) (y : Both K) (mine theirs : List (Label K)) (found : Findings K) : Type 0 where
    pub own_is : y.fore.labels ≡ labels_view (start_at m) mine
    pub others_are : y.back.labels ≡ labels_view (start_at m') theirs
    pub best : y.best ≡ found.best
    pub meet : y.meet ≡ found.meet.0
    pub expansions : y.expansions ≡ found.expanded
    pub prunings : y.prunings ≡ found.pruned

  module _ {m m' : MapModel} {G : Given K} {s t left taken : ℕ} {y : Both K} {V : Type 0} {near : Meaning K} {W : Type 0} {far : Meaning K}
      {mine theirs : List (Label K)} {found : Findings K} (r : Rest m m' G s t left taken y V near W far mine theirs found) where
    -- what a turn asks
    pub turning : (price : ℕ → ℕ → K) (places : ℕ) → Fits price m G → places ≡ m.places → taken < 1000000 →
        Turning thing leq price m places (start_at m') V near W far mine theirs found G r.state
    turning price places fits level few = record {
      fits = fits;
      level = level;
      sized = r.sized;
      shown = r.shown;
      agree = r.agree;
      others_agree = r.others_agree;
      few = let c = r.counted in omega (arith, c, few);
    }

    ended : r.state ≡ y → Final m m' y mine theirs found
    ended e = subst (λ z. Final m m' z mine theirs found) e (record {
      own_is = r.shown.labels;
      others_are = r.shown.beside.others;
      best = r.shown.beside.best;
      meet = r.shown.beside.meet;
      expansions = r.shown.beside.expansions;
      prunings = r.shown.beside.prunings;
    })

    -- no turn was taken
    pub stops : {mine' : List (Label K)} → Over O mine mine' r.state → Final m m' y mine' theirs found
    stops o = subst (λ l. Final m m' y l theirs found) (sym o.same) (ended (sym (run_stop O left G s t r.state o.no_next) ∙ r.leads))

  -- no turn is left
  pub spent : {m m' : MapModel} {G : Given K} {s t taken : ℕ} {y : Both K} {V : Type 0} {near : Meaning K} {W : Type 0} {far : Meaning K}
      {mine theirs : List (Label K)} {found : Findings K} → Rest m m' G s t 0 taken y V near W far mine theirs found → Final m m' y mine theirs found
  spent r = ended r r.leads

  -- a turn was taken, and it is the other side's
  pub moves : {m m' : MapModel} {G : Given K} {s t left taken : ℕ} {y : Both K} {V : Type 0} {near : Meaning K} {W : Type 0} {far : Meaning K}
      {mine theirs : List (Label K)} {found : Findings K} (r : Rest m m' G s t (suc left) taken y V near W far mine theirs found) → m.places ≡ m'.places →
      {V' : Type 0} {near' : Meaning K} {mine' : List (Label K)} {found' : Findings K} → length mine' ≡ length mine →
      Moved thing leq O m (start_at m') V' near' mine' theirs found' G s t r.state →
      Rest m' m (flip G) t s left (suc taken) (other y) W far V' near' theirs mine' (swapped found')
  moves {m} {m'} {G} {s} {t} {left} {taken} {y} {theirs} r level {mine'} {found'} same h = record {
    state = other (search_spec.step O G s t r.state h.place);
    shown = shown_other (start_at m) (start_at m') mine' theirs found' (search_spec.step O G s t r.state h.place) h.shown;
    agree = r.others_agree;
    others_agree = h.agree;
    sized = r.others_sized ∙ level;
    others_sized = same ∙ r.sized ∙ level;
    counted = let c = r.counted in let k = step_turns O G s t r.state h.place in omega (arith, c, k);
    leads = ap other (sym (run_step O left G s t r.state h.place h.next_is) ∙ r.leads);
  }

  -- two turns, and it is the first side's again
  pub again : {m m' : MapModel} {G : Given K} {s t left taken : ℕ} {y : Both K} {V : Type 0} {near : Meaning K} {W : Type 0} {far : Meaning K}
      {mine theirs : List (Label K)} {found : Findings K} → Rest m m' (flip (flip G)) s t left taken (other (other y)) V near W far mine theirs found →
      Rest m m' G s t left taken y V near W far mine theirs found
  again {m} {m'} {G} {s} {t} {left} {taken} {y} {V} {near} {W} {far} {mine} {theirs} {found} r =
      subst (λ z. Rest m m' z s t left taken y V near W far mine theirs found) (flip_flip G) r

  -- what is found by the other side is found
  pub final_other : {m m' : MapModel} {y : Both K} {mine theirs : List (Label K)} {found : Findings K} → Final m' m (other y) theirs mine found → Final m m' y mine theirs found
  final_other f = record {
    own_is = f.others_are;
    others_are = f.own_is;
    best = f.best;
    meet = f.meet;
    expansions = f.expansions;
    prunings = f.prunings;
  }

  -- over a map and the map turned round
  pub left : {m : MapModel} {y : Both K} {fore back : List (Label K)} {found : Findings K} → Final m (turned_round m) y fore back found → Left m fore back found y
  left f = record {
    fore_is = f.own_is;
    back_is = f.others_are;
    best = f.best;
    meet = f.meet;
    expansions = f.expansions;
    prunings = f.prunings;
  }

  -- as many turns left and taken
  pub recounted : {m m' : MapModel} {G : Given K} {s t left taken : ℕ} {y : Both K} {V : Type 0} {near : Meaning K} {W : Type 0} {far : Meaning K}
      {mine theirs : List (Label K)} {found : Findings K} → Rest m m' G s t left taken y V near W far mine theirs found → (left' taken' : ℕ) → left ≡ left' → taken ≡ taken' →
      Rest m m' G s t left' taken' y V near W far mine theirs found
  recounted {m} {m'} {G} {s} {t} {left} {taken} {y} {V} {near} {W} {far} {mine} {theirs} {found} r left' taken' e f =
      subst (λ z. Rest m m' G s t left' z y V near W far mine theirs found) f (subst (λ z. Rest m m' G s t z taken y V near W far mine theirs found) e r)

  -- what was found goes by another name
  pub renamed : {m m' : MapModel} {G : Given K} {s t left taken : ℕ} {y : Both K} {V : Type 0} {near : Meaning K} {W : Type 0} {far : Meaning K}
      {mine theirs : List (Label K)} {found : Findings K} → Rest m m' G s t left taken y V near W far mine theirs found → (found' : Findings K) → found' ≡ found →
      Rest m m' G s t left taken y V near W far mine theirs found'
  renamed {m} {m'} {G} {s} {t} {left} {taken} {y} {V} {near} {W} {far} {mine} {theirs} r found' e =
      subst (λ z. Rest m m' G s t left taken y V near W far mine theirs z) (sym e) r

  -- rounds of two turns, of which there are n
  module _ (n : ℕ) (m m' : MapModel) (level : m.places ≡ m'.places) (G : Given K) (s t : ℕ) (y : Both K) where
    -- after i rounds it is the first side's turn
    abbrev pub Round : ℕ → (V : Type 0) (near : Meaning K) (W : Type 0) (far : Meaning K) (mine theirs : List (Label K)) (found : Findings K) → Type 0
    Round i V near W far mine theirs found = Rest m m' G s t ((n - i) + (n - i)) (i + i) y V near W far mine theirs found

    -- and then the second side's
    abbrev pub Halfway : ℕ → (V : Type 0) (near : Meaning K) (W : Type 0) (far : Meaning K) (mine theirs : List (Label K)) (found : Findings K) → Type 0
    Halfway i V near W far mine theirs found = Rest m' m (flip G) t s (suc ((n - (i + 1)) + (n - (i + 1)))) (suc (i + i)) (other y) W far V near theirs mine found

    module _ {V : Type 0} {near : Meaning K} {W : Type 0} {far : Meaning K} {mine theirs : List (Label K)} {found : Findings K} (i : ℕ) where
      pub to_turn : i < n → Round i V near W far mine theirs found → Rest m m' G s t (suc (suc ((n - (i + 1)) + (n - (i + 1))))) (i + i) y V near W far mine theirs found
      to_turn l r = recounted r (suc (suc ((n - (i + 1)) + (n - (i + 1))))) (i + i) (omega (arith, l)) refl

    pub first_move : {V : Type 0} {near : Meaning K} {W : Type 0} {far : Meaning K} {mine theirs : List (Label K)} {found : Findings K} (i : ℕ) →
        (r : Rest m m' G s t (suc (suc ((n - (i + 1)) + (n - (i + 1))))) (i + i) y V near W far mine theirs found) →
        {V' : Type 0} {near' : Meaning K} {mine' : List (Label K)} {found' : Findings K} → length mine' ≡ length mine →
        Moved thing leq O m (start_at m') V' near' mine' theirs found' G s t r.state → (found'' : Findings K) → found'' ≡ swapped found' → Halfway i V' near' W far mine' theirs found''
    first_move i r same h found'' e = renamed (moves r level same h) found'' e

    pub second_move : {V : Type 0} {near : Meaning K} {W : Type 0} {far : Meaning K} {mine theirs : List (Label K)} {found : Findings K} (i : ℕ) →
        (r : Halfway i V near W far mine theirs found) →
        {W' : Type 0} {far' : Meaning K} {theirs' : List (Label K)} {found' : Findings K} → length theirs' ≡ length theirs →
        Moved thing leq O m' (start_at m) W' far' theirs' mine found' (flip G) t s r.state → (found'' : Findings K) → found'' ≡ swapped found' → Round (i + 1) V near W' far' mine theirs' found''
    second_move i r same h found'' e = renamed (recounted (again (moves r (sym level) same h)) ((n - (i + 1)) + (n - (i + 1))) ((i + 1) + (i + 1)) refl (omega arith)) found'' e

    -- no round was made yet
    pub no_round : (x : Both K) → {V : Type 0} {near : Meaning K} {W : Type 0} {far : Meaning K} {mine theirs : List (Label K)} {found : Findings K} →
        Shown (start_at m) (start_at m') mine theirs found x → Agree thing leq V near mine → Agree thing leq W far theirs → length mine ≡ m.places → length theirs ≡ m.places →
        x.expansions + x.prunings ≡ 0 → search_spec.run O (n + n) G s t x ≡ y → Round 0 V near W far mine theirs found
    no_round x h a b l k none e = record {
      state = x;
      shown = h;
      agree = a;
      others_agree = b;
      sized = l;
      others_sized = k;
      counted = omega (arith, none);
      leads = ap (λ z. search_spec.run O z G s t x) (omega arith) ∙ e;
    }

    -- all rounds were made
    pub no_more : {V : Type 0} {near : Meaning K} {W : Type 0} {far : Meaning K} {mine theirs : List (Label K)} {found : Findings K} (i : ℕ) → n ≤ i →
        Round i V near W far mine theirs found → Final m m' y mine theirs found
    no_more i l r = spent (recounted r 0 (i + i) (omega (arith, l)) refl)
