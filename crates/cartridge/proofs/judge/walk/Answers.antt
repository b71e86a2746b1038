use Rattle.std.proofs.Common.{◌≡◌, ℕ, ◌*◌, List, [], ◌∷◌, refl, ◌∙◌, arith}
use Rattle.format.specs.Bytes.{places, roads}
use Rattle.format.specs.Reading.{fields}
use Rattle.format.proofs.Accepted.{all_there}
use Rattle.format.proofs.Verdicts.{Left, step}
use Rattle.cartridge.proofs.Walking.{walks_on, refuses_with, leaves_with, field_ends, done}
use Rattle.cartridge.proofs.judge.walk.Goals as goal

-- all fields, by the counts
begin : (b : List ℕ) (p m : ℕ) → p ≡ places b → m ≡ roads b → Left b (fields b) 0 ((1, 5) ∷ (2, p) ∷ (3, 8 * m) ∷ (4, 2 * m) ∷ (15, 0) ∷ [])
unfolding fields
begin b p m e f = record { is = rw (e, f) }

pub returns-in_err-offset : goal.returns-in_err-offset
returns-in_err-offset c =
    leaves_with _ _ _ _ c.from_residual.ensures.1 (refuses_with ((1, 5) ∷ (2, places c.args.bytes.now) ∷ (3, 8 * roads c.args.bytes.now) ∷ (4, 2 * roads c.args.bytes.now) ∷ (15, 0) ∷ []) 0 (0, 0) (begin c.args.bytes.now _ _ refl refl) (omega arith) _ c.in_err-offset.ensures)

pub loop-tag-init : goal.loop-tag-init
loop-tag-init c =
    (step (begin c.args.bytes.now _ _ (c.from-places.ensures ∙ c.place_count.ensures) (c.from-roads.ensures ∙ c.road_count.ensures)) c.in_ok-offset.ensures, field_ends c.args.bytes.now 0 1 5 _ c.in_ok-offset.ensures)

pub returns-in_err-offset-2 : goal.returns-in_err-offset-2
returns-in_err-offset-2 c =
    leaves_with _ _ _ _ c.from_residual-in_err-offset-2.ensures.1 (refuses_with _ c.loop-tag.tag-index _ c.loop-tag.invariant.0 (omega arith) _ c.in_err-offset-2.ensures)

pub loop-tag-preserved : goal.loop-tag-preserved
loop-tag-preserved c =
    (walks_on _ c.loop-tag.tag-index _ c.loop-tag.invariant.0 (omega arith) c.in_ok-offset-2.ensures, field_ends _ _ _ _ _ c.in_ok-offset-2.ensures)

pub invariant_of-result : goal.invariant_of-result
invariant_of-result c = record { whole = all_there _ (done _ c.loop-tag.tag-index c.loop-tag.invariant.0 (omega arith) c.if-offset-bytes.false) }
