use Rattle.std.proofs.Common.{◌+◌, true, sym, subst, ◌∙◌, arith}
use Rattle.drg_arrays.proofs.Marks.{IsMarking, IsMarking-yes, IsMarking-no}
use Rattle.drg_arrays.proofs.levels.mark_neighbours.Goals as goal
use Rattle.drg_arrays.proofs.levels.mark_neighbours.Goals.{then-levels-y+then-has_edge, else-levels-y, else-levels-y-via-then-levels-y+else-has_edge, else-levels-y-via-else-levels-y}

pub loop-y-preserved : goal.loop-y-preserved
loop-y-preserved c =
    let G = c.args.graph.now in
    let old = c.args.levels.now in
    let now = c.loop-y.levels in
    let y = c.loop-y.y in
    elim c.if-levels-y.branch [
      | then-levels-y+then-has_edge w ↦
          subst (λ g. IsMarking G c.args.w c.args.level old c.if-levels-y.levels g (y + 1)) (sym w.grew-is)
          (subst (λ ls. IsMarking G c.args.w c.args.level old ls true (y + 1)) (sym w.levels-is)
          (IsMarking-yes G c.args.w c.args.level old now c.loop-y.grew y (omega arith) c.requires.reached w.if-levels-y.true (sym w.has_edge.ensures ∙ w.if-has_edge.true) c.loop-y.invariant))
      | else-levels-y w ↦
          subst (λ g. IsMarking G c.args.w c.args.level old c.if-levels-y.levels g (y + 1)) (sym w.grew-is)
          (subst (λ ls. IsMarking G c.args.w c.args.level old ls c.loop-y.grew (y + 1)) (sym w.levels-is)
          (IsMarking-no G c.args.w c.args.level old now c.loop-y.grew y
          (λ u. elim w.else-levels-y.branch [
            | else-levels-y-via-then-levels-y+else-has_edge v ↦ sym v.has_edge.ensures ∙ v.if-has_edge.false
            | else-levels-y-via-else-levels-y v ↦ absurd (v.if-levels-y.false u)
          ]) c.loop-y.invariant))
    ]
