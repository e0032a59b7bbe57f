use Rattle.std.proofs.Common.{◌≡◌, length}
use Rattle.report_text.proofs.ConstantLists.{listed_below}
use Rattle.report_text.proofs.constants.entry_count.Given as goal

abbrev pub invariant-loop-class : goal.invariant-loop-class
invariant-loop-class l = l.count ≡ length (listed_below l.k l.class)
