-- Two numbers written as one, and so the two sides of the triangles on a pair.
use Rattle.std.specs.Prelude.{ℕ, ◌+◌, ◌*◌, ◌^◌, List, map}
use Rattle.pair_colours.specs.Colouring.{PairColouring, colour_at, points}

-- two numbers as one, which determines both where the right one is below 2 ^ 32
abbrev pub code_of_pair : ℕ → ℕ → ℕ
code_of_pair left right = left * 2 ^ 32 + right

-- the colours from x to z and from z to y as one number
abbrev pub side_code : PairColouring → ℕ → ℕ → ℕ → ℕ
side_code P x y z = code_of_pair (colour_at P x z) (colour_at P z y)

-- that number for each point z
abbrev pub side_codes : PairColouring → ℕ → ℕ → List ℕ
side_codes P x y = map (side_code P x y) (points P.size)
