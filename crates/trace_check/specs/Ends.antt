-- What the clauses see of the stages that were gone through.
use Rattle.std.specs.Prelude.{ℕ, Option, Some, option_map}
use Rattle.pair_colours.specs.Colouring.{PairColouring}
use Rattle.trace_text.specs.declared.check_words.CheckWord.{CheckWord}
use Rattle.trace_text.specs.Chains.{StageEnd}
use Rattle.trace_text.specs.BadLines.{IsFirstFailing, end_conditions}
use Rattle.trace_check.specs.declared.replaying.Ended.{Ended}

-- where a stage ended
abbrev pub ended_of : Ended → StageEnd
ended_of end = record { colours = end.colours.now; partition = end.cells }

-- where the stage before ended, if there is one
abbrev pub before_of : Option Ended → Option StageEnd
before_of before = option_map ended_of before

-- whatever the colours of the last stage are: where it ended with P, the first of the conditions on the claimed closure K that does not hold has this word
abbrev pub EndFails : PairColouring → PairColouring → CheckWord → Type 0
EndFails P K word = (line : ℕ) (C : PairColouring) → IsFirstFailing (end_conditions line (Some (record { colours = C; partition = P })) K) line word
