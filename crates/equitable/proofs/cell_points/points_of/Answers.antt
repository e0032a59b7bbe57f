use Rattle.std.proofs.Common.{◌∙◌}
use Rattle.equitable.proofs.CellPoints.{point_met, point_passed}
use Rattle.equitable.proofs.cell_points.points_of.Goals as goal
use Rattle.equitable.proofs.cell_points.points_of.Goals.{then-cells-z+in_ok-push, else-cells-z}

pub loop-z-preserved : goal.loop-z-preserved
loop-z-preserved c =
    elim c.if-cells-z.branch [
      | then-cells-z+in_ok-push w ↦
          point_met c.args.cells.now c.args.cell c.loop-z.z 0 c.loop-z.members.items c.if-cells-z.members.items w.if-cells-z.true c.loop-z-test.true
          c.loop-z.invariant
          ((λ i. (w.members-is i).items) ∙ w.in_ok-push.ensures.items)
      | else-cells-z w ↦
          point_passed c.args.cells.now c.args.cell c.loop-z.z 0 c.loop-z.members.items c.if-cells-z.members.items w.if-cells-z.false
          c.loop-z-test.true c.loop-z.invariant
          (λ i. (w.members-is i).items)
    ]
