use Rattle.std.proofs.Common.{◌≡◌, map, take, get_or}
use Rattle.drg_arrays.proofs.arrays.numbers_at.Given as goal

abbrev pub invariant-loop-place : goal.invariant-loop-place
invariant-loop-place l = l.found ≡ map (λ place. get_or l.numbers place 0) (take l.place-index l.places)
