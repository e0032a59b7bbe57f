-- The orders in which the pairs of points stand in the graph formats (McKay).
use Rattle.std.specs.Prelude.{ℕ, ◌+◌, List, length, map, slice_index_or}
use Rattle.std.specs.List.{flat_map}
use Rattle.pair_colours.specs.Colouring.{points}
use Rattle.relation_text.specs.declared.graph_format.GraphFormat.{GraphFormat}
use Rattle.relation_text.specs.declared.graph_format.GraphFormat.TheVariants.{Graph, Digraph}

-- the pairs i below j column by column: (0,1), (0,2), (1,2), (0,3) and so on
abbrev pub column_pairs : ℕ → List (ℕ × ℕ)
column_pairs n = flat_map (λ j. map (λ i. (i, j)) (points j)) (points n)

-- all pairs row by row: (0,0), (0,1) and so on
abbrev pub row_pairs : ℕ → List (ℕ × ℕ)
row_pairs n = flat_map (λ i. map (λ j. (i, j)) (points n)) (points n)

-- the pairs for which the two formats have a bit
abbrev pub pairs_of : GraphFormat → ℕ → List (ℕ × ℕ)
pairs_of Graph n = column_pairs n
pairs_of Digraph n = row_pairs n

-- the pair at a place of an order
abbrev pub pair_at : List (ℕ × ℕ) → ℕ → ℕ × ℕ
pair_at order k = slice_index_or order k (0, 0)

-- the place of the pair (i, j), with i below j, column by column
abbrev pub column_place : ℕ → ℕ → ℕ
column_place i j = length (column_pairs j) + i
