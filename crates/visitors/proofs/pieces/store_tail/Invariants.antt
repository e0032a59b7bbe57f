use Rattle.std.proofs.Common.{◌≡◌, ◌++◌, take}
use Rattle.visitors.proofs.pieces.store_tail.Given as goal

abbrev pub invariant-loop-number : goal.invariant-loop-number
invariant-loop-number l = l.tails.items ≡ l.initial.tails.items ++ take l.number-index l.tail
