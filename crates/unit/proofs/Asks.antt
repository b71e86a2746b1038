-- What a question answers, and that it keeps the least-cost promise.
use Rattle.std.proofs.Common.{◌≡◌, ℕ, ◌-◌, ◌<◌, ◌≤◌, Bool, true, false, cond, ◌&&◌, ltb, leb, List, ◌++◌, length, replicate, Some, None, Ok, Err, Option, Result, sym, refl, ap, ◌∙◌, subst, ap₂, arith}
use borrow.Rule.Slice.PartMut.{mid_of, post_of}
use Rattle.std.proofs.lemmas.Bool.{ltb-true, leb-true}
use Rattle.fringe.specs.declared.place.Place.{Place}
use Rattle.fringe.specs.Orders.{TotalOrder}
use Rattle.fringe.specs.Fringes.{Meaning, Emptied}
use Rattle.map.specs.Model.{MapModel, WellFormed}
use Rattle.measure.specs.Costs.{CostLaws}
use Rattle.routes.specs.declared.labels.Label.{Label}
use Rattle.routes.specs.declared.labels.Label.TheVariants.{Blank}
use Rattle.routes.specs.Promise.{LeastCost}
use Rattle.routes.specs.Search.{Answer as SearchAnswer}
use Rattle.routes.proofs.Linked as linked
use Rattle.table.specs.Views.{stored}
use Rattle.search.specs.Asked.{Asked}
use Rattle.asking.specs.declared.answers.Answer.{Answer}
use Rattle.asking.specs.declared.answers.Found.{Found}
use Rattle.asking.specs.Answers.{Answers, Tells, route_given}
use Rattle.histories.specs.declared.calls.Call.{Call}
use Rattle.histories.specs.declared.refusals.Refusal.{Refusal}
use Rattle.histories.specs.declared.refusals.Refusal.TheVariants.{NoSuchPlace, ShortRow, SmallFringe, ShortList}
use Rattle.histories.specs.Histories.{map_after, LeftBy}
use Rattle.histories.proofs.Reading.{map_is, consistent}
use Rattle.unit.specs.declared.units.Unit.{Unit as MapUnit}
use Rattle.unit.specs.Refusing.{question_refusal, verdict}
use Rattle.unit.specs.Questions.{map_now, no_entry_now, Lent, Questioning, by_the_rules, LeastOn}
use Rattle.unit.proofs.Prepares.{refused_with, cut_length, put_blank}

never : (e : Refusal) {A : Type 0} → Some e ≡ None → A
never e h = absurd (let z : ◌≡◌ {A = ℕ} 0 1 = cc h in omega (arith, z))

-- a question that goes on has its places, and room
pub record MayAsk (base : MapModel) (s t fore back near far list : ℕ) : Type 0 where
  pub start_known : s < base.places
  pub goal_known : t < base.places
  pub fore_room : base.places ≤ fore
  pub back_room : base.places ≤ back
  pub near_room : base.places ≤ near
  pub far_room : base.places ≤ far
  pub list_room : base.places ≤ list

all_true : (a b c d e f g : Bool) → cond (a && b) (cond (c && d) (cond (e && f) (cond g None (Some ShortList)) (Some SmallFringe)) (Some ShortRow)) (Some NoSuchPlace) ≡ None →
    (a ≡ true) × (b ≡ true) × (c ≡ true) × (d ≡ true) × (e ≡ true) × (f ≡ true) × (g ≡ true)
all_true true true true true true true true h = (refl, refl, refl, refl, refl, refl, refl)
all_true true true true true true true false h = never ShortList h
all_true true true true true true false g h = never SmallFringe h
all_true true true true true false f g h = never SmallFringe h
all_true true true true false e f g h = never ShortRow h
all_true true true false d e f g h = never ShortRow h
all_true true false c d e f g h = never NoSuchPlace h
all_true false b c d e f g h = never NoSuchPlace h

pub may_ask : (base : MapModel) (s t fore back near far list : ℕ) → question_refusal base s t fore back near far list ≡ None → MayAsk base s t fore back near far list
may_ask base s t fore back near far list h =
    let n = base.places in
    let k = all_true (ltb s n) (ltb t n) (leb n fore) (leb n back) (leb n near) (leb n far) (leb n list) h in
    record {
      start_known = ltb-true _ _ k.0;
      goal_known = ltb-true _ _ k.1;
      fore_room = leb-true _ _ k.2;
      back_room = leb-true _ _ k.3;
      near_room = leb-true _ _ k.4;
      far_room = leb-true _ _ k.5;
      list_room = leb-true _ _ k.6;
    }

-- what the inner call asks
pub may_search : {K : Type 0} (base m : MapModel) → m.places ≡ base.places → (s t : ℕ) (fore back : List (Label K)) (near far list : ℕ) → MayAsk base s t (length fore) (length back) near far list → (n : ℕ) → n ≡ base.places →
    Asked m base.places s t (length (mid_of 0 (n - 0) fore)) (length (mid_of 0 (n - 0) back)) near far
may_search base m level s t fore back near far list ok n n_is = record {
  level = sym level;
  start_known = subst (λ z. s < z) (sym level) ok.start_known;
  goal_known = subst (λ z. t < z) (sym level) ok.goal_known;
  fore_sized = ap (λ z. length (mid_of 0 (z - 0) fore)) n_is ∙ cut_length base.places fore ok.fore_room ∙ sym level;
  back_sized = ap (λ z. length (mid_of 0 (z - 0) back)) n_is ∙ cut_length base.places back ok.back_room ∙ sym level;
  near_room = subst (λ z. z ≤ near) (sym level) ok.near_room;
  far_room = subst (λ z. z ≤ far) (sym level) ok.far_room;
}

-- refused
pub question_stays : {K F N : Type 0} (o : Option Refusal) (e : Refusal) → Err e ≡ verdict o → (by_rules : SearchAnswer K) (n : ℕ) (well : F → Type 0) (meaning : F → Meaning K) (far_well : N → Type 0) (far_meaning : N → Meaning K)
    (memory : Lent K F N) (a : Result (Answer K) Refusal) → a ≡ Err e → Questioning o by_rules n well meaning far_well far_meaning memory memory a
question_stays o e h by_rules n well meaning far_well far_meaning memory a is =
    subst (λ z. Questioning z by_rules n well meaning far_well far_meaning memory memory a) (sym (refused_with o e h)) (record { answer = is; memory_same = refl })

pub least_stays : {K T : Type 0} (thing : K → T) (leq : T → T → Bool) (plus : K → K → K) (nil : K) (price : ℕ → ℕ → K) (m : MapModel) (s t : ℕ) (list : List Place) (e : Refusal) (a : Result (Answer K) Refusal) → a ≡ Err e →
    LeastOn thing leq plus nil price m s t list a
least_stays thing leq plus nil price m s t list e a is = subst (LeastOn thing leq plus nil price m s t list) (sym is) tt

-- the route that was given is that of the answer
given_is : {K : Type 0} (found : Option (K × List ℕ)) (told : Option (Found K)) (before after : List Place) → Tells found told before after → found ≡ route_given told after
given_is None None before after h = refl
given_is None (Some f) before after h = absurd h
given_is (Some w) None before after h = absurd h
given_is (Some w) (Some f) before after h = ap₂ (λ a b. Some (a, b)) (sym h.cost) (sym h.listed.first)

module _ {K T M G : Type 0} (thing : K → T) (leq : T → T → Bool) (order : TotalOrder leq)
    (plus : K → K → K) (nil blocked : K) (price : ℕ → ℕ → K) (code : K → ℕ) (laws : CostLaws thing leq plus nil blocked price code) (decoded : ℕ → K)
    (base : MapModel) (sound : WellFormed base) (u : MapUnit M G) (s t : ℕ) (ls : s < base.places) (lt : t < base.places) where
  -- by the theorem of the search
  pub least_cost : (h : List Call) → LeftBy thing leq plus nil blocked price decoded base h u.map u.table → (before after : List Place) (told : Answer K) →
      Answers (by_the_rules thing leq plus nil blocked price decoded base u s t) before after told → LeastOn thing leq plus nil price (map_after base h) s t after (Ok told)
  least_cost h left before after told answers =
      subst (λ m. LeastCost plus nil price m thing leq s t (route_given told.found after)) (map_is thing leq plus nil blocked price decoded base h u.map u.table left)
      (subst (LeastCost plus nil price (map_now base u) thing leq s t) (given_is (by_the_rules thing leq plus nil blocked price decoded base u s t).found told.found before after answers.tells)
      (linked.promised thing leq order plus nil blocked price code laws (map_now base u) base (stored decoded u.table) (no_entry_now u)
      (consistent thing leq plus nil blocked price decoded base h u.map u.table left sound) s t ls lt))

-- accepted
pub question_answered : {K F N : Type 0} (base : MapModel) (by_rules : SearchAnswer K) (n : ℕ) → n ≡ base.places → (fore back : List (Label K)) → base.places ≤ length fore → base.places ≤ length back →
    (fore' back' : List (Label K)) → fore' ≡ replicate (length (mid_of 0 (n - 0) fore)) Blank → back' ≡ replicate (length (mid_of 0 (n - 0) back)) Blank →
    (well : F → Type 0) (meaning : F → Meaning K) (far_well : N → Type 0) (far_meaning : N → Meaning K) (near near' : F) (far far' : N) →
    Emptied (meaning near) (meaning near') → well near' → Emptied (far_meaning far) (far_meaning far') → far_well far' →
    (list list' : List Place) (told : Answer K) → Answers by_rules list list' told → (o : Option Refusal) → o ≡ None →
    Questioning o by_rules base.places well meaning far_well far_meaning (record { fore = fore; back = back; near = near; far = far; list = list })
    (record { fore = fore' ++ post_of 0 (n - 0) fore; back = back' ++ post_of 0 (n - 0) back; near = near'; far = far'; list = list' }) (Ok told)
question_answered base by_rules n n_is fore back fore_room back_room fore' back' fore_is back_is well meaning far_well far_meaning near near' far far' near_empty near_well far_empty far_order list list' told answers o none =
    subst (λ z. Questioning z by_rules base.places well meaning far_well far_meaning (record { fore = fore; back = back; near = near; far = far; list = list })
    (record { fore = fore' ++ post_of 0 (n - 0) fore; back = back' ++ post_of 0 (n - 0) back; near = near'; far = far'; list = list' }) (Ok told)) (sym none)
    (record {
      told = told;
      answer = refl;
      answers = answers;
      fore_blank = put_blank base.places n fore fore' n_is fore_room fore_is;
      back_blank = put_blank base.places n back back' n_is back_room back_is;
      near_empty = near_empty;
      near_in_order = near_well;
      far_empty = far_empty;
      far_in_order = far_order;
    })
