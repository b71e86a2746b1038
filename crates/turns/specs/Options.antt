-- The options of code as those of the definition of the search.
use Rattle.std.proofs.Math.Option.{Option as Maybe, some, none}
use Rattle.std.specs.Prelude.{Some, None, Option}

-- The same option.
abbrev pub maybe : {A : Type 0} → Option A → Maybe A
maybe None = none
maybe (Some a) = some a
