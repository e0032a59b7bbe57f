-- What a relation text says of a colouring.
use Rattle.std.specs.Prelude.{◌≡◌, ◌==◌, ℕ, ◌<◌, ◌≤◌, if◌then◌else◌, Bool, false, List, ◌∷◌, ◌++◌, length, slice_index_or, slice_get, Some, codes, decimal}
use Rattle.text_lines.specs.Part.{Part}
use Rattle.text_lines.specs.Words.{words_of}
use Rattle.text_lines.specs.Number.{IsNumberForm}
use Rattle.pair_colours.specs.Colouring.{PairColouring, IsColouring, colour_at}
use Rattle.pair_colours.specs.declared.coloured_pairs.TheConstants.{MOST_COLOUR, MOST_POINTS}
use Rattle.relation_text.specs.declared.graph_format.GraphFormat.{GraphFormat}
use Rattle.relation_text.specs.declared.graph_format.GraphFormat.TheVariants.{Graph, Digraph}
use Rattle.relation_text.specs.Bits.{size_bytes, bit_bytes}
use Rattle.relation_text.specs.Orders.{column_pairs, row_pairs, pairs_of, pair_at}
use Rattle.relation_text.specs.Lines.{lines_at}

-- the bytes are N(n) and R(x), with one bit for each pair of the format's order
pub record IsBitText (format : GraphFormat) (bytes : List ℕ) (n : ℕ) (bits : List Bool) : Type 0 where
  pub text : bytes ≡ size_bytes n ++ bit_bytes bits
  pub pairs : length bits ≡ length (pairs_of format n)

-- the colour of a pair with this bit: 3 for a loop and 1 for an edge or arc, else 0 on the diagonal and 2 off it
abbrev pub pair_colour : ℕ → ℕ → Bool → ℕ
pair_colour i j bit = if i == j then (if bit then 3 else 0) else (if bit then 1 else 2)

-- the bit at a place
abbrev pub bit_at : List Bool → ℕ → Bool
bit_at bits k = slice_index_or bits k false

-- a graph6 line: there are no loops, and each bit is that of both ordered pairs
pub record IsGraphLine (line : List ℕ) (C : PairColouring) : Type 0 where
  pub bits : List Bool
  pub encoded : IsBitText Graph line C.size bits
  pub diagonal : (i : ℕ) → i < C.size → colour_at C i i ≡ pair_colour i i false
  pub edge : (k : ℕ) → k < length bits → let pair = pair_at (column_pairs C.size) k in colour_at C pair.0 pair.1 ≡ pair_colour pair.0 pair.1 (bit_at bits k)
  pub turned : (k : ℕ) → k < length bits → let pair = pair_at (column_pairs C.size) k in colour_at C pair.1 pair.0 ≡ pair_colour pair.1 pair.0 (bit_at bits k)

-- a digraph6 line: an ampersand, and then a bit for each pair
pub record IsDigraphLine (line : List ℕ) (C : PairColouring) : Type 0 where
  pub body : List ℕ
  pub ampersand : line ≡ codes "&" ++ body
  pub bits : List Bool
  pub encoded : IsBitText Digraph body C.size bits
  pub arc : (k : ℕ) → k < length bits → let pair = pair_at (row_pairs C.size) k in colour_at C pair.0 pair.1 ≡ pair_colour pair.0 pair.1 (bit_at bits k)

-- row x of a matrix: its words are the numbers of the row
pub record IsMatrixRow (words : List Part) (C : PairColouring) (x : ℕ) : Type 0 where
  pub numbers : length words ≡ C.size
  pub colour : (y : ℕ) (word : Part) → slice_get words y ≡ Some word → IsNumberForm word.bytes (colour_at C x y)
  pub limit : (y : ℕ) → y < C.size → colour_at C x y ≤ MOST_COLOUR

-- a head line with the number of points, and a row for each point on the lines after it
pub record IsMatrix (head : List ℕ) (rows : List Part) (C : PairColouring) : Type 0 where
  pub sized : head ≡ codes "matrix " ++ decimal C.size
  pub enough : C.size ≤ length rows
  pub row : (x : ℕ) (line : Part) → x < C.size → slice_get rows x ≡ Some line → IsMatrixRow (words_of line) C x

-- the chosen line, and for a matrix the lines after it, are a relation
pub data IsRelation (chosen : Part) (rows : List Part) (C : PairColouring) : Type 0 where
  graph : IsGraphLine chosen.bytes C → IsRelation chosen rows C
  digraph : IsDigraphLine chosen.bytes C → IsRelation chosen rows C
  matrix : IsMatrix chosen.bytes rows C → IsRelation chosen rows C

-- the relation that begins on a line of the text is the colouring
pub record IsRelationText (text : List ℕ) (line : ℕ) (C : PairColouring) : Type 0 where
  pub colouring : IsColouring C
  pub limit : C.size ≤ MOST_POINTS
  pub chosen : Part
  pub rows : List Part
  pub lines : lines_at text line ≡ chosen ∷ rows
  pub relation : IsRelation chosen rows C
