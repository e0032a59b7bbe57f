use Rattle.std.proofs.Common.{◌≡◌, map}
use Rattle.pair_colours.specs.Colouring.{points}
use Rattle.wl_round.proofs.SortedPlaces.{place_at}
use Rattle.wl_round.proofs.sweeping.places_by.Given as goal

abbrev pub invariant-loop-i : goal.invariant-loop-i
invariant-loop-i l = l.places.items ≡ map (place_at l.codes.items) (points l.i)
