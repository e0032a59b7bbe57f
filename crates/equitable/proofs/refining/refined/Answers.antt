use Rattle.std.proofs.Common.{sym, subst}
use Rattle.equitable.specs.Acceptance.{IsReached}
use Rattle.equitable.proofs.Ending.{refined_start, accepted_end}
use Rattle.equitable.proofs.refining.refined.Goals as goal

pub part_all-requires-clause-reached : goal.part_all-requires-clause-reached
part_all-requires-clause-reached c =
    let G = c.args.arcs in
    subst (IsReached G c.in_ok-partition.partition) (sym c.new-steps.ensures)
    (refined_start G c.in_ok-partition.partition c.size.result c.size.ensures.points c.in_ok-partition.ensures)

pub returns-clause-accepted : goal.returns-clause-accepted
returns-clause-accepted c =
    accepted_end c.args.arcs c.finish.new.partition c.finish.new.steps c.in_ok-cells.cells c.in_ok-finish.ensures.reached
    c.in_ok-finish.ensures.equitable c.in_ok-cells.ensures
