-- The texts of relations that are written.
use Rattle.std.specs.Prelude.{ℕ, Bool, List, ◌++◌, map, codes, decimal}
use Rattle.text_lines.specs.Rows.{matrix_rows}
use Rattle.pair_colours.specs.Colouring.{PairColouring, colour_at}
use Rattle.pair_colours.specs.ColourSets.{is_in}
use Rattle.relation_text.specs.Bits.{size_bytes, bit_bytes}
use Rattle.relation_text.specs.Orders.{column_pairs, row_pairs}

-- for each pair of a list, whether its colour is in the set
abbrev pub pair_bits : PairColouring → List ℕ → List (ℕ × ℕ) → List Bool
pair_bits C set pairs = map (λ pair. is_in set (colour_at C pair.0 pair.1)) pairs

-- the graph whose edges are the pairs with a colour in the set
abbrev pub graph6_of : PairColouring → List ℕ → List ℕ
graph6_of C set = size_bytes C.size ++ bit_bytes (pair_bits C set (column_pairs C.size))

-- the digraph whose arcs are the pairs with a colour in the set
abbrev pub digraph6_of : PairColouring → List ℕ → List ℕ
digraph6_of C set = codes "&" ++ size_bytes C.size ++ bit_bytes (pair_bits C set (row_pairs C.size))

-- a matrix: the head line with its number of points, and its rows
abbrev pub matrix_of : PairColouring → List ℕ
matrix_of C = codes "matrix " ++ decimal C.size ++ codes "\n" ++ matrix_rows C
