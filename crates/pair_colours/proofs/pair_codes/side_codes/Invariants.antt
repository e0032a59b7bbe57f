use Rattle.std.proofs.Common.{◌≡◌, map}
use Rattle.pair_colours.specs.Colouring.{points}
use Rattle.pair_colours.specs.SideCodes.{side_code}
use Rattle.pair_colours.proofs.pair_codes.side_codes.Given as goal

abbrev pub invariant-loop-z : goal.invariant-loop-z
invariant-loop-z l = l.codes.items ≡ map (side_code l.colouring l.x l.y) (points l.z)
