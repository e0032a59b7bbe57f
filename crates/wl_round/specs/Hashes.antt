-- Hashes of pairs, made of a word for each side.
use Rattle.std.specs.Prelude.{◌≡◌, ◌≢◌, ◌==◌, ℕ, Bool, ◌+◌, ◌*◌, ◌/◌, ◌%◌, ◌^◌, ◌<◌, List, length, slice_index, if◌then◌else◌}
use Rattle.std.specs.List.{sum_by}
use Rattle.pair_colours.specs.Colouring.{PairColouring, colour_at, points}
use Rattle.pair_colours.specs.Rounds.{Alike}
use Rattle.wl_round.specs.declared.hashing.TheConstants.{DIAGONAL}

-- at each place of a list of numbers the word of the number there
pub record HasWords (numbers words laid : List ℕ) : Type 0 where
  pub len : length laid ≡ length numbers
  pub is : (p : ℕ) → p < length numbers → slice_index laid p ≡ slice_index words (slice_index numbers p)

-- for each pair its word as a left side, for each transposed pair its word as a right side and its own, by the colour alone
pub record AreWords (P : PairColouring) (lefts rights turned : List ℕ) : Type 0 where
  pub left : List ℕ
  pub right : List ℕ
  pub over : List ℕ
  pub lefts_len : length lefts ≡ P.size * P.size
  pub rights_len : length rights ≡ P.size * P.size
  pub turned_len : length turned ≡ P.size * P.size
  pub left_is : (x z : ℕ) → x < P.size → z < P.size → slice_index lefts (x * P.size + z) ≡ slice_index left (colour_at P x z)
  pub right_is : (y z : ℕ) → y < P.size → z < P.size → slice_index rights (y * P.size + z) ≡ slice_index right (colour_at P z y)
  pub turned_is : (x y : ℕ) → x < P.size → y < P.size → slice_index turned (x * P.size + y) ≡ slice_index over (colour_at P y x)

-- the sum of the products of the entries of two lists
abbrev pub dot : List ℕ → List ℕ → ℕ
dot left right = sum_by (λ z. slice_index left z * slice_index right z) (points (length left))

-- the upper half of the sum over the sides of a pair, with the other words
abbrev pub hash_from : ℕ → ℕ → Bool → ℕ
hash_from sides turned diagonal = ((sides / 2 ^ 32 + turned) % 2 ^ 32 + (if diagonal then DIAGONAL else 0)) % 2 ^ 32

-- the hash of the pair (x, y) among n points
abbrev pub hash_at : ℕ → List ℕ → List ℕ → List ℕ → ℕ → ℕ → ℕ
hash_at n lefts rights turned x y =
    hash_from (sum_by (λ z. slice_index lefts (x * n + z) * slice_index rights (y * n + z)) (points n) % 2 ^ 64) (slice_index turned (x * n + y)) (x == y)

-- the pairs from x have their hashes, and the others are as they were
pub record IsRowHashed (lefts rights turned : List ℕ) (x : ℕ) (old new : PairColouring) : Type 0 where
  pub size : new.size ≡ old.size
  pub row : (y : ℕ) → y < old.size → colour_at new x y ≡ hash_at old.size lefts rights turned x y
  pub others : (u v : ℕ) → u < old.size → v < old.size → u ≢ x → colour_at new u v ≡ colour_at old u v

-- pairs that are alike in P have one colour in H
pub record KeepsTogether (P H : PairColouring) : Type 0 where
  pub sizes : H.size ≡ P.size
  pub together : (x y u v : ℕ) → x < P.size → y < P.size → u < P.size → v < P.size → Alike P x y u v → colour_at H x y ≡ colour_at H u v
