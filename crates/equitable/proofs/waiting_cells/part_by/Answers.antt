use Rattle.std.proofs.Common.{length, ap, arith}
use Rattle.equitable.proofs.CellNumbers.{cell_count-le}
use Rattle.equitable.proofs.waiting_cells.part_by.Goals as goal

pub overflow_cast-cell : goal.overflow_cast-cell
overflow_cast-cell c =
    omega (
      arith,
      c.loop-cell-test.true,
      ap length c.deref-odd-items.ensures.value,
      c.in_ok-uneven.ensures,
      cell_count-le c.args.partition.now,
      c.requires.reached.points,
      c.requires.fits.limit,
    )
