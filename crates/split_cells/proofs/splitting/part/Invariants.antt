use Rattle.std.proofs.Common.{◌≡◌, ◌-◌, ◌^◌, ◌<◌, true, false}
use Rattle.split_cells.specs.Grids.{IsUsed}
use Rattle.split_cells.specs.Pairs.{IsClassed}
use Rattle.split_cells.specs.Parts.{smaller_counts}
use Rattle.split_cells.proofs.PartLemmas.{IsPartedTo}
use Rattle.split_cells.proofs.splitting.part.Given as goal

abbrev pub invariant-loop-next : goal.invariant-loop-next
invariant-loop-next l = record {
  classed : IsClassed l.pairs;
  size : l.pairs.size ≡ l.fn.pairs.size;
  used : IsUsed l.pairs.parting.class.items l.pairs.parting.rank;
  parted : IsPartedTo l.fn.pairs.size l.fn.pairs.parting.class.items l.tally.counts l.k l.fn.pairs.parting.rank l.key l.pairs.parting.class.items l.pairs.parting.rank;
  split : l.split ≡ true → 0 < smaller_counts l.fn.pairs.size l.fn.pairs.parting.class.items l.tally.counts l.k l.key;
  idle : l.split ≡ false → smaller_counts l.fn.pairs.size l.fn.pairs.parting.class.items l.tally.counts l.k l.key ≡ 0;
}

abbrev pub decreases-loop-next : goal.decreases-loop-next
decreases-loop-next l = 2 ^ 32 - l.key
