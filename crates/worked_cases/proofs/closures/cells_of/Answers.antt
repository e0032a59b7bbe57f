use Rattle.std.proofs.Common.{sym, subst}
use Rattle.trace_text.specs.Partition.{IsPartition}
use Rattle.trace_text.proofs.Partitions.{IsPartition-named_of}
use Rattle.worked_cases.proofs.closures.cells_of.Goals as goal

pub of-requires : goal.of-requires
of-requires c = subst IsPartition (sym c.in_ok-named.ensures) (IsPartition-named_of c.args.raw.now c.size-size.ensures.within.colouring)
