use Rattle.std.proofs.Common.{◌≡◌, ◌-◌, drop}
use Rattle.text_lines.specs.Lines.{lines_of}
use Rattle.relation_text.proofs.choosing.chosen_line.Given as goal

abbrev pub invariant-loop-number : goal.invariant-loop-number
invariant-loop-number l = l.left ≡ drop (l._number - 1) (lines_of l.text)
