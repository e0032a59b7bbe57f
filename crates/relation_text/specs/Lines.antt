-- The lines of a relation text.
use Rattle.std.specs.Prelude.{ℕ, ◌+◌, ◌-◌, nat_eq, if◌then◌else◌, List, [], ◌∷◌, length, drop, codes}
use Rattle.std.specs.List.{starts_with}
use Rattle.text_lines.specs.Part.{Part}
use Rattle.text_lines.specs.Lines.{lines_of}

-- how many bytes the header at the front of a text has
abbrev pub header_len : List ℕ → ℕ
header_len text = if starts_with nat_eq text (codes ">>graph6<<") then 10
    else (if starts_with nat_eq text (codes ">>digraph6<<") then 12 else 0)

-- a part of a text without its first k bytes
abbrev pub part_after : ℕ → Part → Part
part_after k part = record { start = part.start + k; bytes = drop k part.bytes }

-- the place after the last byte of a part
abbrev pub end_of : Part → ℕ
end_of part = part.start + length part.bytes

-- the first line loses its first k bytes
abbrev pub first_line_after : ℕ → List Part → List Part
first_line_after k [] = []
first_line_after k (line ∷ lines) = part_after k line ∷ lines

-- the lines, the first without the header; places count in the whole text
abbrev pub relation_lines : List ℕ → List Part
relation_lines text = first_line_after (header_len text) (lines_of text)

-- the lines from the chosen one on, counted from 1
abbrev pub lines_at : List ℕ → ℕ → List Part
lines_at text line = drop (line - 1) (relation_lines text)
