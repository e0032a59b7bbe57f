-- The lines of a text.
use Rattle.std.specs.Prelude.{ℕ, ◌==◌, if◌then◌else◌, List, [], ◌∷◌, length, map}
use Rattle.std.specs.List.{slice_split}
use Rattle.std.specs.Str.Lines.{strip_carriage_return}
use Rattle.text_lines.specs.Part.{Part, placed}

-- what follows the last line feed is a line only if it is not empty
abbrev pub without_empty_end : List Part → List Part
without_empty_end [] = []
without_empty_end (part ∷ []) = if length part.bytes == 0 then [] else part ∷ []
without_empty_end (part ∷ next ∷ parts) = part ∷ without_empty_end (next ∷ parts)

-- one carriage return at the end of a line is not part of it
abbrev pub without_return : Part → Part
without_return part = record { start = part.start; bytes = strip_carriage_return part.bytes }

-- the lines of a text that starts at `place`: it is cut at each line feed
abbrev pub lines_from : ℕ → List ℕ → List Part
lines_from place text = map without_return (without_empty_end (placed place (slice_split (λ b. b == 10) text)))

-- the lines of a text, each with the place where it starts
abbrev pub lines_of : List ℕ → List Part
lines_of text = lines_from 0 text
