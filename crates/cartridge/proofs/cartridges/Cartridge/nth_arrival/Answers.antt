use Rattle.std.proofs.Common.{◌≡◌, ℕ, ◌<◌, [], length, slice_index_or, ap, ◌∙◌, arith, rules}
use Rattle.std.proofs.lemmas.List.{get_or_default}
use Rattle.std.proofs.lemmas.Bool.{lt-ltb}
use Rattle.std.specs.Option.{option_map}
use Rattle.map.specs.declared.numbers.RoadId.{RoadId}
use Rattle.format.specs.Bytes.{number, roads}
use Rattle.format.specs.Reading.{arrival_of, arriving}
use Rattle.format.proofs.Accepted.{accepted_facts, arrival_known}
use Rattle.cartridge.proofs.Listed.{ends_climb, arrives, end_known, numbered}
use Rattle.cartridge.proofs.cartridges.Cartridge.nth_arrival.Goals as goal

pub returns : goal.returns
returns c =
    let s = c.args.self.now in
    let b = s.bytes.now in
    let f = accepted_facts b s.accepted in
    let xs = c.arrivals-arrivals.result.now in
    let number_in : ℕ → ℕ = λ i. number (slice_index_or xs i []) 0 in
    let n : length xs ≡ roads b = rw c.fields-fields.ensures at c.arrivals-arrivals.ensures.count in
    let each : (i : ℕ) → i < roads b → number (slice_index_or xs i []) 0 ≡ arrival_of b i = rw c.fields-fields.ensures at c.arrivals-arrivals.ensures.each in
    let h = c.nth_at.ensures.nth (λ l. end_known b (number l 0)) (λ i. (arriving b i).end.0)
    (λ x p q.
    let e : p ≡ end_known c.fields-fields.result.bytes.now (number q.shown.now 0) = search rules in
    e ∙ ap (λ v. end_known v (number q.shown.now 0)) c.fields-fields.ensures ∙ ap (λ l. end_known b (number l 0)) q.shows)
    (λ i d l. let u = ap (λ l. number l 0) (get_or_default xs i d [] l) ∙ each i (omega arith) in
    ap (end_known b) u ∙ rw (lt-ltb (arrival_of b i) (roads b) (arrival_known b f i (omega arith))))
    (λ i j l u. ends_climb b f i j l (omega arith)) in
    let m : c.map.result ≡ option_map (λ i. let x : RoadId = record { 0 = number (slice_index_or xs i []) 0 } in x) c.nth_at.result = search rules in
    numbered c.nth_at.result c.map.result (length xs) number_in (arrival_of b) c.nth_at.ensures.within (λ i l. each i (omega arith)) m
    ∙ arrives b f c.args.place.0 c.args.j c.nth_at.result (rw n at h)
