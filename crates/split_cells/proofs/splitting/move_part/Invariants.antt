use Rattle.std.proofs.Common.{◌≡◌}
use Rattle.split_cells.specs.Segments.{StandsBehind, bound_of}
use Rattle.split_cells.specs.Pairs.{IsClassed}
use Rattle.split_cells.proofs.PartLemmas.{IsMovedTo}
use Rattle.split_cells.proofs.splitting.move_part.Given as goal

abbrev pub invariant-loop-a : goal.invariant-loop-a
invariant-loop-a l = record {
  classed : IsClassed l.pairs;
  size : l.pairs.size ≡ l.fn.pairs.size;
  rank : l.pairs.parting.rank ≡ l.fn.pairs.parting.rank;
  behind : StandsBehind l.pairs.parting l.k l.new;
  moved : IsMovedTo l.fn.pairs.parting.class.items l.tally.counts l.tally.touched (bound_of l.fn.pairs.parting) l.key l.new l.a l.pairs.parting.class.items;
}
