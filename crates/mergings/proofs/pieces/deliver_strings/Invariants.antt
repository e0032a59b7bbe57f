use Rattle.std.proofs.Common.{◌≡◌, ◌<◌, ◌++◌, length, take, map, vec_items}
use Rattle.mergings.proofs.pieces.deliver_strings.Given as goal

-- the strings before this one were met, and there is room for more
abbrev pub invariant-loop-place : goal.invariant-loop-place
invariant-loop-place g l = record {
  met : (goal.Visitor-dyn g l.visitor.now).met l.visitor.now.1 ≡ (goal.Visitor-dyn g l.fn.visitor.now).met l.fn.visitor.now.1 ++ take l.place (map vec_items l.strings);
  space : length ((goal.Visitor-dyn g l.visitor.now).met l.visitor.now.1) < (goal.Visitor-dyn g l.visitor.now).room l.visitor.now.1;
  room : (goal.Visitor-dyn g l.visitor.now).room l.visitor.now.1 ≡ (goal.Visitor-dyn g l.fn.visitor.now).room l.fn.visitor.now.1;
}
