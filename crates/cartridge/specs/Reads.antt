-- What reading bytes into a cartridge answers and leaves.
use Rattle.std.specs.Prelude.{◌≡◌, ℕ, List, [], ◌∷◌, Ok, Err, Result}
use Rattle.format.specs.declared.Refusal.{Refusal}
use Rattle.format.specs.Reading.{read, map_in}

-- The bytes of the smallest cartridge: one place in one district, and no road.
abbrev pub blank_bytes : List ℕ
blank_bytes = 1 ∷ 0 ∷ 5 ∷ 0 ∷ 1 ∷ 1 ∷ 0 ∷ 0 ∷ 2 ∷ 0 ∷ 1 ∷ 0 ∷ 3 ∷ 0 ∷ 0 ∷ 4 ∷ 0 ∷ 0 ∷ 15 ∷ 0 ∷ 0 ∷ []

-- Accepted bytes are held from then on, and mean the map that they say; a refusal is theirs, and leaves what was held.
abbrev pub Reads : List ℕ → List ℕ → List ℕ → Result Unit Refusal → Type 0
Reads bytes held held' (Ok _) = (held' ≡ bytes) × (read bytes ≡ Ok (map_in held'))
Reads bytes held held' (Err e) = (held' ≡ held) × (read bytes ≡ Err e)
