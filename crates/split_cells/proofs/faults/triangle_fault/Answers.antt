use Rattle.std.proofs.Common.{below_more}
use Rattle.split_cells.proofs.faults.triangle_fault.Goals as goal

pub loop-k-preserved : goal.loop-k-preserved
loop-k-preserved c = record {
  blank = c.in_default.ensures.blank;
  once = below_more _ _ c.loop-k.invariant.once c.in_default.ensures.none;
}
