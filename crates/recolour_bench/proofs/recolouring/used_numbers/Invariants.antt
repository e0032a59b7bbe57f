use Rattle.std.proofs.Common.{◌≡◌, ◌+◌, ◌*◌, length, take}
use Rattle.recolour_bench.proofs.Unused.{AreFlags}
use Rattle.recolour_bench.proofs.recolouring.used_numbers.Given as goal

abbrev pub invariant-loop-y : goal.invariant-loop-y
invariant-loop-y l = record {
  len : length l.used.items ≡ l.size * l.size + 1;
  flags : AreFlags l.used.items (take (l.x * l.size + l.y) l.colouring.colours);
}

abbrev pub invariant-loop-x : goal.invariant-loop-x
invariant-loop-x l = record {
  len : length l.used.items ≡ l.size * l.size + 1;
  flags : AreFlags l.used.items (take (l.x * l.size) l.colouring.colours);
}
