use Rattle.std.proofs.Common.{◌≡◌, ℕ, ◌<◌, true, false, get_or}
use Rattle.split_cells.specs.Fellows.{HasCodeCounts}
use Rattle.split_cells.proofs.faults.odd_pair.Given as goal

abbrev pub invariant-loop-a : goal.invariant-loop-a
invariant-loop-a l = record {
  up : l.up ≡ true → (code : ℕ) → get_or l.got code 0 ≡ 0;
  down : l.up ≡ false → (code : ℕ) → get_or l.got code 0 ≡ get_or l.want code 0;
  like : (b : ℕ) → b < l.a → HasCodeCounts l.pairs l.codes (get_or l.members b 0) l.want;
}
