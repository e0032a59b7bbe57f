use Rattle.std.proofs.Common.{◌≡◌, ◌++◌, take}
use Rattle.text_lines.specs.Joined.{joined}
use Rattle.text_lines.proofs.growing_text.Text.put_numbers.Given as goal

abbrev pub invariant-loop-place : goal.invariant-loop-place
invariant-loop-place l = l.self ≡ l.initial.self ++ joined l.separator (take l.place l.numbers)
