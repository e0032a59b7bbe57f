use Rattle.text_lines.specs.LineNumbers.{words_left}
use Rattle.text_lines.proofs.LineWords.{FillsTo}
use Rattle.text_lines.proofs.line_numbers.fill_numbers.Given as goal

abbrev pub invariant-loop-place : goal.invariant-loop-place
invariant-loop-place l = FillsTo l.limit l.count (words_left l.initial.left) l.place l.numbers (words_left l.left)
