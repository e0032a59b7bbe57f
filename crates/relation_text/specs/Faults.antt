-- The faults of a relation text: tests in an order, of which the first that holds tells the word and the place.
use Rattle.std.specs.Prelude.{◌≡◌, ◌==◌, ◌&&◌, ◌||◌, not, nat_eq, nat_le, nat_lt, is_none, ℕ, ◌+◌, ◌-◌, ◌*◌, if◌then◌else◌, Bool, true, List, [], ◌∷◌, ◌++◌, length, drop, slice_index, slice_get, Option, Some, None, unwrap_or, codes, ⊤}
use Rattle.std.specs.List.{list_any, position_or_len, range_with_len, starts_with, flat_map, enumerate_from}
use Rattle.std.specs.Char.{is_ascii_digit}
use Rattle.std.specs.Str.Parse.{digits_value}
use Rattle.text_lines.specs.Part.{Part}
use Rattle.text_lines.specs.Words.{words_of, is_blank_byte}
use Rattle.text_lines.specs.Number.{number_of, has_leading_zero}
use Rattle.pair_colours.specs.Colouring.{points}
use Rattle.pair_colours.specs.Tests.{first_that_holds}
use Rattle.pair_colours.specs.declared.coloured_pairs.TheConstants.{MOST_COLOUR, MOST_POINTS}
use Rattle.relation_text.specs.declared.faults.RelationWord.{RelationWord}
use Rattle.relation_text.specs.declared.faults.RelationWord.TheVariants.{NoLine, BadByte, SizeForm, NoPoints, TooManyPoints, WrongLength, PadBits, MatrixHead, MatrixNumber, MatrixCount, ColourTooLarge}
use Rattle.relation_text.specs.declared.faults.RelationFault.{RelationFault}
use Rattle.relation_text.specs.declared.faults.RelationFault.TheVariants.{Text, NoMemory}
use Rattle.relation_text.specs.declared.graph_format.GraphFormat.{GraphFormat}
use Rattle.relation_text.specs.declared.graph_format.GraphFormat.TheVariants.{Graph, Digraph}
use Rattle.relation_text.specs.Bits.{size_len, bytes_for, bit_in}
use Rattle.relation_text.specs.Orders.{pairs_of}
use Rattle.relation_text.specs.Lines.{lines_at, part_after, end_of}

-- a test, with the word and the place of its fault
abbrev pub Test : Type 0
Test = Bool × (RelationWord × ℕ)

-- a byte of a graph line holds six bits, plus 63
abbrev pub is_graph_byte : ℕ → Bool
is_graph_byte b = nat_le 63 b && nat_le b 126

-- the byte 126 in front tells the long form of a size, and again in the second place a longer one
abbrev pub is_long : List ℕ → Bool
is_long bytes = slice_index bytes 0 == 126

-- the number in the three bytes of the long form
abbrev pub long_size : List ℕ → ℕ
long_size bytes = (slice_index bytes 1 - 63) * 4096 + (slice_index bytes 2 - 63) * 64 + (slice_index bytes 3 - 63)

-- the number of points that the bytes of a graph line begin with
abbrev pub size_of : List ℕ → ℕ
size_of bytes = if is_long bytes then long_size bytes else slice_index bytes 0 - 63

-- the tests of the bytes of a graph line, without the ampersand of a digraph6 line
abbrev pub byte_tests : Part → List Test
byte_tests body =
    (length body.bytes == 0, (WrongLength, end_of body))
    ∷ (list_any (λ b. not (is_graph_byte b)) body.bytes, (BadByte, body.start + position_or_len (λ b. not (is_graph_byte b)) body.bytes))
    ∷ []

-- then of its size
abbrev pub size_tests : Part → List Test
size_tests body =
    let bytes = body.bytes in
    (slice_index bytes 0 == 63, (NoPoints, body.start))
    ∷ (is_long bytes && (slice_index bytes 1 == 126), (TooManyPoints, body.start))
    ∷ (is_long bytes && nat_lt (length bytes) 4, (WrongLength, end_of body))
    ∷ (is_long bytes && nat_le (long_size bytes) 62, (SizeForm, body.start))
    ∷ (is_long bytes && nat_lt MOST_POINTS (long_size bytes), (TooManyPoints, body.start))
    ∷ []

-- how many bits the format has for the size of the line, and the bytes that hold them
abbrev pub bit_count : GraphFormat → List ℕ → ℕ
bit_count format bytes = length (pairs_of format (size_of bytes))

abbrev pub bits_part : List ℕ → List ℕ
bits_part bytes = drop (size_len (size_of bytes)) bytes

-- and then of the number of the bits and of those that fill up the last byte
abbrev pub bits_tests : GraphFormat → Part → List Test
bits_tests format body =
    let count = bit_count format body.bytes in
    (not (length body.bytes == size_len (size_of body.bytes) + bytes_for count), (WrongLength, end_of body))
    ∷ (list_any (bit_in (bits_part body.bytes)) (range_with_len count (6 * bytes_for count - count)), (PadBits, end_of body - 1))
    ∷ []

abbrev pub graph_tests : GraphFormat → Part → List Test
graph_tests format body = byte_tests body ++ size_tests body ++ bits_tests format body

-- the tests of one number of a row of n, at its place in the row
abbrev pub number_tests : ℕ → ℕ × Part → List Test
number_tests n (y, word) =
    (nat_le n y, (MatrixCount, word.start))
    ∷ (has_leading_zero word.bytes, (MatrixNumber, word.start))
    ∷ (nat_lt MOST_COLOUR (digits_value 10 word.bytes), (ColourTooLarge, word.start))
    ∷ []

abbrev pub is_row_byte : ℕ → Bool
is_row_byte b = is_ascii_digit b || is_blank_byte b

-- the tests of a row of n numbers, or of the lack of such a line in a text of this length
abbrev pub row_tests : ℕ → ℕ → Option Part → List Test
row_tests len n None = (true, (MatrixCount, len)) ∷ []
row_tests len n (Some row) =
    (list_any (λ b. not (is_row_byte b)) row.bytes, (BadByte, row.start + position_or_len (λ b. not (is_row_byte b)) row.bytes))
    ∷ flat_map (number_tests n) (enumerate_from 0 (words_of row))
    ++ (nat_lt (length (words_of row)) n, (MatrixCount, end_of row)) ∷ []

-- what follows `matrix ` on a head line
abbrev pub head_word : Part → Part
head_word head = part_after 7 head

-- the tests of a head line
abbrev pub head_tests : Part → List Test
head_tests head =
    (is_none (number_of (head_word head).bytes), (MatrixHead, head.start))
    ∷ (unwrap_or (number_of (head_word head).bytes) 0 == 0, (NoPoints, (head_word head).start))
    ∷ (nat_lt MOST_POINTS (unwrap_or (number_of (head_word head).bytes) 0), (TooManyPoints, (head_word head).start))
    ∷ []

-- the tests of a head line, and then of its rows one after the other
abbrev pub matrix_tests : ℕ → Part → List Part → List Test
matrix_tests len head rows =
    let n = unwrap_or (number_of (head_word head).bytes) 0 in
    head_tests head ++ flat_map (λ x. row_tests len n (slice_get rows x)) (points n)

-- the tests of the relation that begins on the first of these lines, in a text of this length
abbrev pub relation_tests : ℕ → List Part → List Test
relation_tests len [] = (true, (NoLine, len)) ∷ []
relation_tests len (chosen ∷ rows) =
    if starts_with nat_eq chosen.bytes (codes "matrix ") then matrix_tests len chosen rows
    else (if starts_with nat_eq chosen.bytes (codes "&") then graph_tests Digraph (part_after 1 chosen)
    else graph_tests Graph chosen)

-- the fault of the relation that begins on a line of the text, if it has one: its word and its place
abbrev pub relation_fault : List ℕ → ℕ → Option (RelationWord × ℕ)
relation_fault text line = first_that_holds (relation_tests (length text) (lines_at text line))

-- an answer that is not want of memory tells this fault
abbrev pub IsFaultOf : RelationFault → Option (RelationWord × ℕ) → Type 0
IsFaultOf (Text what at) fault = fault ≡ Some (what, at)
IsFaultOf NoMemory fault = ⊤
