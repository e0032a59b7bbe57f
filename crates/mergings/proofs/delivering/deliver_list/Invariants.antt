use Rattle.std.proofs.Common.{◌≡◌, ◌<◌, ◌++◌, length, map, take, vec_items}
use Rattle.mergings.proofs.delivering.deliver_list.Given as goal

abbrev pub invariant-loop-i : goal.invariant-loop-i
invariant-loop-i l = record {
  met : l.met ≡ l.fn.met ++ take l.i (map vec_items l.list);
  left : length l.met < l.room;
}
