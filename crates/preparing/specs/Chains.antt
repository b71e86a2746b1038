-- A step along a chain of origins.
use Rattle.std.proofs.Math.Option.{Option as Maybe, some, none}
use Rattle.std.specs.Prelude.{ℕ}
use Rattle.routes.specs.States.{Origin, Start, From, Label, Blank, Reached, Settled}

-- The place that an origin names, if it is not a start.
abbrev pub named : Origin → Maybe ℕ
named Start = none
named (From u) = some u

-- The place that a label comes from, if it does not begin there.
abbrev pub comes_from : {K : Type 0} → Label K → Maybe ℕ
comes_from Blank = none
comes_from (Reached c o) = named o
comes_from (Settled c o) = named o
