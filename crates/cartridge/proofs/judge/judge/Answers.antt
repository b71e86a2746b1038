use Rattle.std.proofs.Common.{◌≡◌, List, ℕ, Some, None, Err, ap, ◌∙◌}
use Rattle.std.proofs.lemmas.Result.{err_from_is_err_and}
use Rattle.format.specs.declared.Refusal.{Refusal}
use Rattle.format.specs.Reading.{judged, fields, contents}
use Rattle.cartridge.proofs.judge.judge.Goals as goal

refused : (b : List ℕ) (e : Refusal) → fields b ≡ Some e → judged b ≡ Some e
unfolding judged
refused b e h = rw h

walked : (b : List ℕ) → fields b ≡ None → judged b ≡ contents b
unfolding judged
walked b h = rw h

pub returns-in_err-walk : goal.returns-in_err-walk
returns-in_err-walk c =
    let p = err_from_is_err_and c.from_residual.result c.from_residual.ensures.1 in
    p.1 ∙ ap Err p.2 ∙ rw (refused c.args.bytes.now _ c.in_err-walk.ensures)

pub returns : goal.returns
returns c =
    let e = c.in_ok-walk.ensures in
    rw (walked c.args.bytes.now e.0, ← e.1) c.check_contents.ensures
