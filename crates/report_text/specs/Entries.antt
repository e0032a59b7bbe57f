-- The lines of sets and strings.
use Rattle.std.specs.Prelude.{ℕ, List, ◌++◌, codes}
use Rattle.std.specs.List.{flat_map}
use Rattle.text_lines.specs.Joined.{spaced}

-- the line of a set or a string: its numbers with single spaces (of no numbers, an empty line)
abbrev pub entry_line : List ℕ → List ℕ
entry_line entry = spaced entry ++ codes "\n"

-- a line for each entry
abbrev pub entry_lines : List (List ℕ) → List ℕ
entry_lines entries = flat_map entry_line entries
