use Rattle.std.proofs.Common.{◌≡◌, ◌++◌}
use Rattle.std.specs.List.{flat_map}
use Rattle.report_text.specs.Constants.{constant_line}
use Rattle.report_text.proofs.ConstantLists.{listed_below}
use Rattle.report_text.proofs.constants.put_rows.Given as goal

abbrev pub invariant-loop-class : goal.invariant-loop-class
invariant-loop-class l = l.text ≡ l.initial.text ++ flat_map (constant_line l.k) (listed_below l.k l.class)
