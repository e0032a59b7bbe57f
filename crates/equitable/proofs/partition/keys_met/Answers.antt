use Rattle.std.proofs.Common.{get_or, ◌∙◌}
use Rattle.equitable.proofs.PartitionLoops.{key_met, key_passed}
use Rattle.equitable.proofs.partition.keys_met.Goals as goal
use Rattle.equitable.proofs.partition.keys_met.Goals.{then-cells-x+in_ok-insert, else-cells-x}

pub loop-x-preserved : goal.loop-x-preserved
loop-x-preserved c =
    elim c.if-cells-x.branch [
      | then-cells-x+in_ok-insert w ↦
          key_met c.args.cells.now
          (λ z. get_or c.args.keys.now z 0) c.args.cell c.loop-x.x 0 c.loop-x.met.keys c.if-cells-x.met.keys w.if-cells-x.true c.loop-x-test.true
          c.loop-x.invariant
          ((λ i. (w.met-is i).keys) ∙ w.in_ok-insert.ensures.keys)
      | else-cells-x w ↦
          key_passed c.args.cells.now
          (λ z. get_or c.args.keys.now z 0) c.args.cell c.loop-x.x 0 c.loop-x.met.keys c.if-cells-x.met.keys w.if-cells-x.false
          c.loop-x-test.true c.loop-x.invariant
          (λ i. (w.met-is i).keys)
    ]
