use Rattle.std.proofs.Common.{◌≡◌, ◌++◌}
use Rattle.std.specs.List.{flat_map}
use Rattle.pair_colours.specs.Colouring.{points}
use Rattle.report_text.specs.Classes.{class_line}
use Rattle.report_text.proofs.classes.put_classes.Given as goal

abbrev pub invariant-loop-class : goal.invariant-loop-class
invariant-loop-class l = l.text ≡ l.initial.text ++ flat_map (class_line l.k) (points l.class)
