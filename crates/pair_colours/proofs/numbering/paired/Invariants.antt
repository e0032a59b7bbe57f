use Rattle.std.proofs.Common.{◌≡◌, ℕ, ◌<◌, length, get_or}
use Rattle.pair_colours.specs.SideCodes.{code_of_pair}
use Rattle.pair_colours.proofs.numbering.paired.Given as goal

abbrev pub invariant-loop-i : goal.invariant-loop-i
invariant-loop-i l = record {
  made : length l.codes.items ≡ l.i;
  is : (k : ℕ) → k < l.i → get_or l.codes.items k 0 ≡ code_of_pair (get_or l.xs k 0) (get_or l.ys k 0);
}
