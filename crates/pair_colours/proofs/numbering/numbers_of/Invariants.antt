use Rattle.std.proofs.Common.{◌≡◌, length}
use Rattle.pair_colours.proofs.NumberedLists.{NumbersTo}
use Rattle.pair_colours.proofs.numbering.numbers_of.Given as goal

abbrev pub invariant-loop-i : goal.invariant-loop-i
invariant-loop-i l = record {
  made : length l.numbers.items ≡ l.i;
  numbered : NumbersTo l.codes l.seen.keys l.numbers.items l.i;
}
