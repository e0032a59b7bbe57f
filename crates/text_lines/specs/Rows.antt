-- The rows of a matrix as lines.
use Rattle.std.specs.Prelude.{ℕ, List, ◌++◌, map, codes}
use Rattle.std.specs.List.{flat_map}
use Rattle.pair_colours.specs.Colouring.{PairColouring, colour_at, points}
use Rattle.text_lines.specs.Joined.{spaced}

-- the colours of row x, with single spaces
abbrev pub matrix_row : PairColouring → ℕ → List ℕ
matrix_row C x = spaced (map (λ y. colour_at C x y) (points C.size))

-- the rows, a line each
abbrev pub matrix_lines : PairColouring → List (List ℕ)
matrix_lines C = map (matrix_row C) (points C.size)

-- the same as a text
abbrev pub matrix_rows : PairColouring → List ℕ
matrix_rows C = flat_map (λ x. matrix_row C x ++ codes "\n") (points C.size)
