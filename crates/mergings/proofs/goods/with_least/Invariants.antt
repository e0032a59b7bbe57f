use Rattle.std.proofs.Common.{take}
use Rattle.mergings.specs.Leasts.{AreThoseWithLeast}
use Rattle.mergings.proofs.goods.with_least.Given as goal

abbrev pub invariant-loop-i : goal.invariant-loop-i
invariant-loop-i l = AreThoseWithLeast (take l.i l.masks) l.colour l.those.items
