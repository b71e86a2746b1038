-- The entries of a field that is read as chunks, byte by byte.
use Rattle.std.proofs.Common.{◌≡◌, ℕ, zero, suc, ◌+◌, ◌*◌, ◌-◌, ◌<◌, ◌≤◌, List, [], slice_index, slice_index_or, take, drop, ap, ◌∙◌, add-zero, arith}
use Rattle.std.proofs.Math.Nat.{mul-le-mul_left}
use Rattle.std.specs.Simd.{first_chunks}
use Rattle.std.proofs.lemmas.List.{get_or-take, get_or-drop}
use Rattle.format.specs.Bytes.{number, roads_at}
use Rattle.format.specs.Reading.{road_of}
use Rattle.cartridge.specs.Records.{road_in}

chunk_at : (n k : ℕ) (xs : List ℕ) (i o : ℕ) → i < k → o < n → slice_index (slice_index_or (first_chunks n k xs) i []) o ≡ slice_index xs (n * i + o)
chunk_at n zero xs i o l u = absurd (omega arith)
chunk_at n (suc k) xs zero o l u = let e : o ≡ n * 0 + o = omega arith in get_or-take n xs o 0 u ∙ ap (slice_index xs) e
chunk_at n (suc k) xs (suc i) o l u =
    let e : n + (n * i + o) ≡ n * suc i + o = omega arith in
    chunk_at n k (drop n xs) i o (omega arith) u ∙ get_or-drop n xs (n * i + o) 0 ∙ ap (slice_index xs) e

-- the list l stands in b at an offset
abbrev pub StandsAt : List ℕ → ℕ → ℕ → List ℕ → Type 0
StandsAt b at n l = (o : ℕ) → o < n → slice_index l o ≡ slice_index b (at + o)

-- an entry of the chunks of a part of b
pub entry_at : (b : List ℕ) (n k at end i : ℕ) (chunks : List (List ℕ)) → chunks ≡ first_chunks n k (take (end - at) (drop at b)) → i < k → n * k ≤ end - at →
    StandsAt b (at + n * i) n (slice_index_or chunks i [])
entry_at b n k at end i chunks f l h = rw f (λ o u.
    let e : at + (n * i + o) ≡ at + n * i + o = omega arith in
    let j : suc i ≤ k = omega arith in
    let w : n * i + o < end - at = omega (arith, mul-le-mul_left n j) in
    chunk_at n k _ i o l u ∙ get_or-take (end - at) (drop at b) (n * i + o) 0 w ∙ get_or-drop at b (n * i + o) 0 ∙ ap (slice_index b) e)

pub number_there : (b : List ℕ) (at n : ℕ) (l : List ℕ) → StandsAt b at n l → (o : ℕ) → o + 1 < n → number l o ≡ number b (at + o)
number_there b at n l h o u =
    let e : at + (o + 1) ≡ at + o + 1 = omega arith in
    let x = h o (omega arith) in
    let y = h (o + 1) (omega arith) in
    rw (x, y, e)

pub road_there : (b : List ℕ) (r : ℕ) (l : List ℕ) → StandsAt b (roads_at b + 8 * r) 8 l → road_in l ≡ road_of b r
road_there b r l h =
    let at = roads_at b + 8 * r in
    let s = rw add-zero at (number_there b at 8 l h 0 (omega arith)) in
    let e = number_there b at 8 l h 2 (omega arith) in
    let c = number_there b at 8 l h 4 (omega arith) in
    let g = number_there b at 8 l h 6 (omega arith) in
    cc
