-- The colours that the bits of a graph line give, and the numbers of a row.
use Rattle.std.specs.Prelude.{◌≡◌, ℕ, ◌+◌, ◌*◌, ◌<◌, List, [], slice_index_or, unwrap_or}
use Rattle.std.specs.Str.Parse.{digits_value}
use Rattle.text_lines.specs.Part.{Part}
use Rattle.text_lines.specs.Words.{words_of}
use Rattle.text_lines.specs.Number.{number_of}
use Rattle.relation_text.specs.Faults.{head_word}
use Rattle.pair_colours.specs.Colouring.{PairColouring, colour_at}
use Rattle.relation_text.specs.Bits.{bit_in}
use Rattle.relation_text.specs.Orders.{column_place}
use Rattle.relation_text.specs.Relation.{pair_colour}

-- no loops, and an edge for each bit of the columns
pub record HasEdges (bytes : List ℕ) (C : PairColouring) : Type 0 where
  pub diagonal : (i : ℕ) → i < C.size → colour_at C i i ≡ 0
  pub edge : (i j : ℕ) → i < j → j < C.size → colour_at C i j ≡ pair_colour i j (bit_in bytes (column_place i j))
  pub turned : (i j : ℕ) → i < j → j < C.size → colour_at C j i ≡ pair_colour j i (bit_in bytes (column_place i j))

-- an arc or a loop for each bit of the rows
pub record HasArcs (bytes : List ℕ) (C : PairColouring) : Type 0 where
  pub arc : (i j : ℕ) → i < C.size → j < C.size → colour_at C i j ≡ pair_colour i j (bit_in bytes (i * C.size + j))

-- the number that word y of a row writes
abbrev pub no_part : Part
no_part = record { start = 0; bytes = [] }

abbrev pub cell_of : Part → ℕ → ℕ
cell_of row y = digits_value 10 (slice_index_or (words_of row) y no_part).bytes

abbrev pub cell : List Part → ℕ → ℕ → ℕ
cell rows x y = cell_of (slice_index_or rows x no_part) y

-- the number of points that a head line tells
abbrev pub size_in : Part → ℕ
size_in head = unwrap_or (number_of (head_word head).bytes) 0
