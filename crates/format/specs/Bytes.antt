-- The numbers in a byte string, and where the fields of a cartridge stand.
use Rattle.std.specs.Prelude.{ℕ, ◌+◌, ◌*◌, List, slice_index}

-- The byte at an offset.
abbrev pub byte : List ℕ → ℕ → ℕ
byte b i = slice_index b i

-- The number in two bytes, the high one first.
abbrev pub number : List ℕ → ℕ → ℕ
number b i = byte b i * 256 + byte b (i + 1)

-- The three counts, in the body of the first field.
abbrev pub places : List ℕ → ℕ
places b = number b 3

abbrev pub districts : List ℕ → ℕ
districts b = byte b 5

abbrev pub roads : List ℕ → ℕ
roads b = number b 6

-- The bodies follow their fields' tags and lengths, three bytes each: the districts, a byte a place; the roads, eight
-- bytes each; the arrivals, two bytes each; and the end mark, which has no body.
abbrev pub districts_at : ℕ
districts_at = 11

abbrev pub roads_at : List ℕ → ℕ
roads_at b = 14 + places b

abbrev pub arrivals_at : List ℕ → ℕ
arrivals_at b = 17 + places b + 8 * roads b

abbrev pub whole : List ℕ → ℕ
whole b = 20 + places b + 10 * roads b
