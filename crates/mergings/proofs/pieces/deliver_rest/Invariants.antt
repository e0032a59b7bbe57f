use Rattle.std.proofs.Common.{◌≡◌, ◌<◌, ◌≤◌, ◌-◌, length}
use Rattle.mergings.proofs.ListParts.{IsMidway}
use Rattle.mergings.proofs.pieces.deliver_rest.Given as goal

abbrev pub decreases-loop-last : goal.decreases-loop-last
decreases-loop-last g l = (goal.Visitor-dyn g l.visitor.now).room l.visitor.now.1 - length ((goal.Visitor-dyn g l.visitor.now).met l.visitor.now.1)

-- the rest of the list comes after the last string
abbrev pub invariant-loop-last : goal.invariant-loop-last
invariant-loop-last g l = record {
  midway : IsMidway l.k l.fn.first.items ((goal.Visitor-dyn g l.fn.visitor.now).met l.fn.visitor.now.1) ((goal.Visitor-dyn g l.visitor.now).met l.visitor.now.1) l.last.items;
  space : length ((goal.Visitor-dyn g l.visitor.now).met l.visitor.now.1) < (goal.Visitor-dyn g l.visitor.now).room l.visitor.now.1;
  room : (goal.Visitor-dyn g l.visitor.now).room l.visitor.now.1 ≡ (goal.Visitor-dyn g l.fn.visitor.now).room l.fn.visitor.now.1;
  size : 1 ≤ l.size;
  most : l.size ≤ 65536;
}
