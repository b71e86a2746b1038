-- Steepness: per mille, of which 65,535 are blocked.
use Rattle.std.specs.Prelude.{ℕ, min, max}
use Rattle.measure.specs.declared.steepness.Steepness.{Steepness}

-- So many per mille.
abbrev pub steep : ℕ → Steepness
steep n = record { 0 = n }

-- The per mille that a steepness stands for. All that a u16 can hold stand for themselves.
abbrev pub per_mille_of : Steepness → ℕ
per_mille_of a = min a.0 65535

-- The greater of two.
abbrev pub steeper : Steepness → Steepness → Steepness
steeper a b = steep (max a.0 b.0)
