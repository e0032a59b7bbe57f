use Rattle.good_subsets.proofs.Rows.{AreEntries}
use Rattle.good_subsets.proofs.table.constants_table.Given as goal

abbrev pub invariant-loop-place : goal.invariant-loop-place
invariant-loop-place l = AreEntries l.k l.place l.values.items
