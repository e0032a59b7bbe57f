-- Answers to a check of a trace.
use Rattle.std.specs.Prelude.{ℕ, List, ◌++◌, codes, decimal}
use Rattle.trace_text.specs.CheckWord.{check_word}
use Rattle.trace_text.specs.declared.check_words.CheckWord.{CheckWord}
use Rattle.trace_check.specs.declared.verdicts.Verdict.{Verdict}
use Rattle.trace_check.specs.declared.verdicts.Verdict.TheVariants.{Accepted, Refused}

-- an accepted claim, with the size and the rank of its closure, and how many steps its stages have
abbrev pub accepted_text_of : ℕ → ℕ → ℕ → List ℕ
accepted_text_of points rank steps = codes "accepted points " ++ decimal points ++ codes " rank " ++ decimal rank ++ codes " steps " ++ decimal steps ++ codes "\n"

-- a claim that is refused, with its first bad line and the word of that line
abbrev pub bad_line_text_of : ℕ → CheckWord → List ℕ
bad_line_text_of line what = codes "refused line " ++ decimal line ++ codes " " ++ check_word what ++ codes "\n"

-- the answer of a verdict
abbrev pub verdict_text_of : Verdict → List ℕ
verdict_text_of (Accepted points rank steps) = accepted_text_of points rank steps
verdict_text_of (Refused line what) = bad_line_text_of line what
