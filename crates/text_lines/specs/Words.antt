-- The words of a line.
use Rattle.std.specs.Prelude.{ℕ, ◌==◌, ◌||◌, not, Bool, List, length, filter}
use Rattle.std.specs.List.{slice_split}
use Rattle.text_lines.specs.Part.{Part, placed}

-- a space or a tab
abbrev pub is_blank_byte : ℕ → Bool
is_blank_byte b = (b == 32) || (b == 9)

-- the words of a line that starts at `place`: what stands between blanks and is not empty
abbrev pub words_from : ℕ → List ℕ → List Part
words_from place line = filter (λ word. not (length word.bytes == 0)) (placed place (slice_split is_blank_byte line))

-- the words of a line, each with its place in the text
abbrev pub words_of : Part → List Part
words_of line = words_from line.start line.bytes
