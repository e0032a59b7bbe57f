use Rattle.std.proofs.Common.{◌≡◌, ◌<◌, ◌≤◌, slice_index}
use Rattle.visitors.specs.Packing.{unpacked, piece_at}
use Rattle.visitors.proofs.pieces.number_at.Given as goal

-- the entry at hand has the same number there
abbrev pub invariant-loop-at : goal.invariant-loop-at
invariant-loop-at l = record {
  back : l.at ≤ l.entry;
  place : l.place < (piece_at l.pieces l.at).width;
  same : slice_index (unpacked l.tails l.pieces l.at) l.place ≡ slice_index (unpacked l.tails l.pieces l.entry) l.place;
}

abbrev pub decreases-loop-at : goal.decreases-loop-at
decreases-loop-at l = l.at
