use Rattle.std.proofs.Common.{◌+◌, ◌*◌}
use Rattle.scheme_demo.specs.Demonstration.{demo_relation_of}
use Rattle.scheme_demo.proofs.Filling.{IsFilledTo}
use Rattle.scheme_demo.proofs.relations.demo_relation.Given as goal

abbrev pub invariant-loop-x : goal.invariant-loop-x
invariant-loop-x l = IsFilledTo (demo_relation_of l.number) l.relation (l.x * l.size)

abbrev pub invariant-loop-y : goal.invariant-loop-y
invariant-loop-y l = IsFilledTo (demo_relation_of l.number) l.relation (l.x * l.size + l.y)
