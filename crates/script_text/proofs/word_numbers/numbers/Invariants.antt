use Rattle.std.proofs.Common.{take}
use Rattle.std.specs.List.{AllZip}
use Rattle.text_lines.specs.Number.{IsNumberForm}
use Rattle.script_text.specs.Answers.{texts}
use Rattle.script_text.proofs.word_numbers.numbers.Given as goal

-- the numbers so far are the words so far
abbrev pub invariant-loop-word : goal.invariant-loop-word
invariant-loop-word l = AllZip IsNumberForm (texts (take l.word-index l.words)) l.numbers
