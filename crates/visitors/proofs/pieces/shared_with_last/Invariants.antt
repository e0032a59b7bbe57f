use Rattle.std.proofs.Common.{◌≡◌, take}
use Rattle.visitors.specs.Packing.{unpacked}
use Rattle.visitors.proofs.pieces.shared_with_last.Given as goal

abbrev pub invariant-loop-place : goal.invariant-loop-place
invariant-loop-place l = take l.place (unpacked l.tails l.pieces l.last) ≡ take l.place l.entry
