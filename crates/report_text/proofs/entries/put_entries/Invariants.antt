use Rattle.std.proofs.Common.{◌≡◌, ◌++◌, take}
use Rattle.report_text.specs.Entries.{entry_lines}
use Rattle.report_text.proofs.entries.put_entries.Given as goal

abbrev pub invariant-loop-entry : goal.invariant-loop-entry
invariant-loop-entry g l = l.text ≡ l.initial.text ++ entry_lines (take l.entry ((goal.Visitor-dyn g l.visitor.now).met l.visitor.now.1))
