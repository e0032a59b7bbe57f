use Rattle.std.proofs.Common.{◌≡◌, ◌++◌, take}
use Rattle.visitors.specs.Entries.{entry_at}
use Rattle.text_lines.specs.Joined.{spaced}
use Rattle.report_text.proofs.entries.put_numbers.Given as goal

abbrev pub invariant-loop-place : goal.invariant-loop-place
invariant-loop-place g l =
    l.text ≡ l.initial.text ++ spaced (take l.place (entry_at ((goal.Visitor-dyn g l.visitor.now).met l.visitor.now.1) l.entry))
