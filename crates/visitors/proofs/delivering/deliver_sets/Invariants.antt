use Rattle.std.proofs.Common.{◌≡◌, ◌<◌, length, take, map}
use Rattle.visitors.specs.Masks.{members_of}
use Rattle.visitors.proofs.delivering.deliver_sets.Given as goal

-- the sets before this one were met, and there is room for more
abbrev pub invariant-loop-mask : goal.invariant-loop-mask
invariant-loop-mask g l = record {
  met : (goal.Visitor-dyn g l.visitor.now).met l.visitor.now.1 ≡ take l.mask-index (map (members_of l.rank) l.masks);
  space : length ((goal.Visitor-dyn g l.visitor.now).met l.visitor.now.1) < (goal.Visitor-dyn g l.visitor.now).room l.visitor.now.1;
  room : (goal.Visitor-dyn g l.visitor.now).room l.visitor.now.1 ≡ (goal.Visitor-dyn g l.fn.visitor.now).room l.fn.visitor.now.1;
}
