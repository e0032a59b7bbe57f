use Rattle.std.proofs.Common.{◌≡◌, map}
use Rattle.pair_colours.specs.Colouring.{points}
use Rattle.wl_round.proofs.SortedPlaces.{code_at}
use Rattle.wl_round.proofs.sorting.sorted_codes.Given as goal

abbrev pub invariant-loop-p : goal.invariant-loop-p
invariant-loop-p l = l.codes.items ≡ map (code_at l.numbers) (points l.p)
