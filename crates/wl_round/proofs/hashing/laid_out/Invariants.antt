use Rattle.std.proofs.Common.{◌≡◌, map}
use Rattle.pair_colours.specs.Colouring.{points}
use Rattle.wl_round.proofs.PlaceLists.{word_at}
use Rattle.wl_round.proofs.hashing.laid_out.Given as goal

abbrev pub invariant-loop-p : goal.invariant-loop-p
invariant-loop-p l = l.laid.items ≡ map (word_at l.numbers l.words) (points l.p)
