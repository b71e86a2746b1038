use Rattle.std.proofs.Common.{◌≡◌, ℕ, suc, ◌≤◌, List, ◌∷◌, length, sym, ap, ◌∙◌, subst, ap₂, arith}
use Rattle.fringe.specs.declared.place.Place.{Place}
use Rattle.map.specs.Model.{MapModel}
use Rattle.map.specs.Turned.{turned_round}
use Rattle.routes.specs.declared.labels.Label.{Label}
use Rattle.routes.specs.Labels.{start_at, labels_view}
use Rattle.routes.specs.Search.{Both, trail}
use Rattle.tracing.specs.Listings.{Listed, Short}
use Rattle.tracing.specs.Meetings.{Met}
use Rattle.tracing.proofs.Halved.{halves_put, part_length, relisted}
use Rattle.tracing.proofs.lists.write_route.Goals as goal

module _ {K : Type 0} {n : ℕ} {m : MapModel} {fore back : List (Label K)} {meet : ℕ} {x : Both K} (h : Met n m fore back meet x) where
  fore-trail : trail (suc n) (labels_view (start_at m) fore) meet ≡ x.meet ∷ h.unspliced.rest
  fore-trail = ap₂ (trail (suc n)) (sym h.fore_is) (sym h.meet_is) ∙ h.unspliced.forward_is

  back-trail : trail (suc n) (labels_view (start_at (turned_round m)) back) meet ≡ x.meet ∷ h.unspliced.others
  back-trail = ap₂ (trail (suc n)) (sym h.back_is) (sym h.meet_is) ∙ h.unspliced.backward_is

  fore-short : (room : ℕ) → n ≤ room → Short n room (trail (suc n) (labels_view (start_at m) fore) meet)
  fore-short room l =
      let k : length (trail (suc n) (labels_view (start_at m) fore) meet) ≡ suc (length h.unspliced.rest) = ap length fore-trail in
      record { few = omega (arith, k, h.unspliced.short, h.unspliced.length_is); fits = omega (arith, k, h.unspliced.short, h.unspliced.length_is, l) }

  back-short : (room : ℕ) → suc (length h.unspliced.others) ≤ room → Short n room (trail (suc n) (labels_view (start_at (turned_round m)) back) meet)
  back-short room l =
      let k : length (trail (suc n) (labels_view (start_at (turned_round m)) back) meet) ≡ suc (length h.unspliced.others) = ap length back-trail in
      record { few = omega (arith, k, h.unspliced.short, h.unspliced.length_is); fits = omega (arith, k, l) }

  -- the first half as it was written down
  first-half : (list traced : List Place) (met : ℕ) → n ≤ length list →
      (Short n (length list) (trail (suc n) (labels_view (start_at m) fore) meet) → Listed (trail (suc n) (labels_view (start_at m) fore) meet) list traced met) →
      Listed (x.meet ∷ h.unspliced.rest) list traced met
  first-half list traced met l e = subst (λ z. Listed z list traced met) fore-trail (e (fore-short (length list) l))

  second-half : (list traced : List Place) (count : ℕ) → suc (length h.unspliced.others) ≤ length list →
      (Short n (length list) (trail (suc n) (labels_view (start_at (turned_round m)) back) meet) → Listed (trail (suc n) (labels_view (start_at (turned_round m)) back) meet) list traced count) →
      Listed (x.meet ∷ h.unspliced.others) list traced count
  second-half list traced count l e = subst (λ z. Listed z list traced count) back-trail (e (back-short (length list) l))

pub returns : goal.returns
returns g c = λ n x h room.
    let one = first-half h c.args.list.now c.trace-met.new.list c.trace-met.result room (c.trace-met.ensures.listed n) in
    let long : c.trace-met.result ≤ length c.trace-met.new.list = omega (arith, c.trace-met.ensures.within, c.trace-met.auto.list) in
    relisted h.unspliced.route_is
    (halves_put x.meet h.unspliced.rest h.unspliced.others c.args.list.now c.trace-met.result c.trace-met.new.list one long c.reverse.new.self c.reverse.ensures.after
    c.trace.new.list c.trace.result
    (second-half h _ c.trace.new.list c.trace.result
    (let z = part_length x.meet h.unspliced.rest h.unspliced.others c.args.list.now c.trace-met.result c.trace-met.new.list one long c.reverse.new.self c.reverse.ensures.after in
    omega (arith, z, h.unspliced.short, h.unspliced.length_is, room, one.count_is, c.trace-met.auto.list))
    (c.trace.ensures.listed n)))
