-- Answers that list sets of colours.
use Rattle.std.specs.Prelude.{ℕ, List, ◌++◌, codes}
use Rattle.report_text.specs.Entries.{entry_lines}
use Rattle.report_text.specs.declared.sets.SetHead.{SetHead}
use Rattle.report_text.specs.declared.sets.SetHead.TheVariants.{Closed, Good}

-- which sets are listed, as a word
abbrev pub set_word : SetHead → List ℕ
set_word Closed = codes "closed"
set_word Good = codes "good"

-- the word, a line for each set, and `end`
abbrev pub sets_text_of : SetHead → List (List ℕ) → List ℕ
sets_text_of head met = set_word head ++ codes "\n" ++ entry_lines met ++ codes "end\n"
