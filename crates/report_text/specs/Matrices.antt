-- Answers that show a matrix.
use Rattle.std.specs.Prelude.{ℕ, List, ◌++◌, codes, decimal}
use Rattle.pair_colours.specs.Colouring.{PairColouring}
use Rattle.pair_colours.specs.Naming.{rank_of}
use Rattle.report_text.specs.declared.matrices.MatrixHead.{MatrixHead}
use Rattle.report_text.specs.declared.matrices.MatrixHead.TheVariants.{Show, Raw, Quotient, Sub}
use Rattle.text_lines.specs.Rows.{matrix_rows}

-- the head line: which matrix it is, how many points it has and how many colours are in use
abbrev pub head_line : MatrixHead → ℕ → ℕ → List ℕ
head_line Show points rank = codes "show points " ++ decimal points ++ codes " rank " ++ decimal rank ++ codes "\n"
head_line Raw points colours = codes "raw points " ++ decimal points ++ codes " colours " ++ decimal colours ++ codes "\n"
head_line Quotient points rank = codes "quotient points " ++ decimal points ++ codes " rank " ++ decimal rank ++ codes "\n"
head_line Sub points rank = codes "sub points " ++ decimal points ++ codes " rank " ++ decimal rank ++ codes "\n"

-- a matrix under its head line
abbrev pub matrix_text_of : MatrixHead → PairColouring → List ℕ
matrix_text_of head K = head_line head K.size (rank_of K) ++ matrix_rows K

-- the closure
abbrev pub show_text : PairColouring → List ℕ
show_text K = matrix_text_of Show K

-- the present colouring with its raw colours
abbrev pub raw_text : PairColouring → List ℕ
raw_text C = matrix_text_of Raw C

-- a quotient
abbrev pub quotient_text : PairColouring → List ℕ
quotient_text Q = matrix_text_of Quotient Q

-- a subscheme
abbrev pub sub_text : PairColouring → List ℕ
sub_text S = matrix_text_of Sub S
