-- Answers that show growth strings.
use Rattle.std.specs.Prelude.{ℕ, ◌-◌, nat_lt, List, ◌++◌, length, take, codes, if◌then◌else◌}
use Rattle.text_lines.specs.Joined.{spaced}
use Rattle.visitors.specs.Entries.{entry_at}
use Rattle.report_text.specs.Entries.{entry_line, entry_lines}

-- the string of a closed merging
abbrev pub close_text_of : List ℕ → List ℕ
close_text_of string = codes "close " ++ spaced string ++ codes "\n"

-- the last line of a list that shows at most so many strings: where more were met, it names the last one shown
abbrev pub mergings_end : List (List ℕ) → ℕ → List ℕ
mergings_end met most =
    if nat_lt most (length met) then codes "next after " ++ entry_line (entry_at met (most - 1)) else codes "end\n"

-- at most so many of the strings that were met, a line each, and whether more follow
abbrev pub mergings_text_of : List (List ℕ) → ℕ → List ℕ
mergings_text_of met most = codes "mergings\n" ++ entry_lines (take most met) ++ mergings_end met most
