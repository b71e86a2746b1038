use Rattle.std.proofs.Common.{◌≤◌, drop, length}
use Rattle.format.specs.Reading.{fields}
use Rattle.format.proofs.Verdicts.{Left}
use Rattle.cartridge.proofs.judge.walk.Given as goal

-- the fields that are left to walk give the answer
abbrev pub invariant-loop-tag : goal.invariant-loop-tag
invariant-loop-tag l = Left l.bytes (fields l.bytes) l.offset (drop l.tag-index l.tag-items) × (l.offset ≤ length l.bytes)
