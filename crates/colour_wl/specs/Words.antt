-- The words of pairs, by which pairs that are not alike are mostly told apart.
use Rattle.std.specs.Prelude.{◌==◌, ℕ, ◌+◌, ◌*◌, ◌/◌, ◌%◌, ◌^◌, sum_by, if◌then◌else◌}
use Rattle.pair_colours.specs.Colouring.{PairColouring, colour_at}
use Rattle.pair_colours.specs.SideCodes.{code_of_pair, side_codes}
use Rattle.colour_wl.specs.declared.hashing.TheConstants.{MULTIPLIER}

-- the upper half of a product, and three numbers that are multiplied, modulo 2^64
abbrev pub upper_half : ℕ → ℕ
upper_half code = code * MULTIPLIER % 2 ^ 64 / 2 ^ 32

-- the word of a code, a pseudo-random number below 2^64
abbrev pub mix : ℕ → ℕ
mix code = upper_half code * upper_half code % 2 ^ 64 * (code * MULTIPLIER % 2 ^ 64) % 2 ^ 64

-- the word of a pair: the words of the sides of its triangles are added, and that of its transposed colour and of whether it is on the diagonal
abbrev pub pair_word : PairColouring → ℕ → ℕ → ℕ
pair_word P x y = (sum_by mix (side_codes P x y) + mix (code_of_pair (colour_at P y x) (if x == y then 1 else 0))) % 2 ^ 64

-- the colour of a pair with the upper half of its word
abbrev pub pair_key : PairColouring → ℕ → ℕ → ℕ
pair_key P x y = code_of_pair (colour_at P x y) (pair_word P x y / 2 ^ 32)
