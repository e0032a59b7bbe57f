use Rattle.std.proofs.Common.{◌*◌, ap, arith}
use Rattle.split_cells.proofs.FaultSteps.{IsSettled-from}
use Rattle.split_cells.proofs.faults.unsettled.Goals as goal

pub returns-clause-none : goal.returns-clause-none
returns-clause-none c =
    IsSettled-from c.args.pairs.now c.requires.classed (λ p l. c.loop-p.invariant p (omega (arith, l, c.loop-p-test.false, ap (λ m. m * m) c.points-points.ensures)))
