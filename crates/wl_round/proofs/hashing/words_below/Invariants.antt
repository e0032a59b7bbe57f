use Rattle.std.proofs.Common.{◌≡◌, length}
use Rattle.wl_round.proofs.hashing.words_below.Given as goal

abbrev pub invariant-loop : goal.invariant-loop
invariant-loop l = length l.words.items ≡ l.counter
