use Rattle.std.proofs.Common.{take}
use Rattle.triangle_count.specs.Cache.{AreMarked}
use Rattle.triangle_count.proofs.cache.marks_of.Given as goal

abbrev pub invariant-loop-pair : goal.invariant-loop-pair
invariant-loop-pair l = AreMarked l.size (take l.pair-index l.changed) l.lefts.items l.rights.items
