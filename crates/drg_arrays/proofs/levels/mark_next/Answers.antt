use Rattle.std.proofs.Common.{◌+◌, ◌<◌, true, sym, subst, ◌∙◌, arith}
use Rattle.drg_arrays.proofs.Marks.{IsAdvance, IsAdvance-skip, IsAdvance-more, IsAdvance-still}
use Rattle.drg_arrays.proofs.levels.mark_next.Goals as goal
use Rattle.drg_arrays.proofs.levels.mark_next.Goals.{then-levels-w+then-mark_neighbours, else-levels-w, else-levels-w-via-then-levels-w+else-mark_neighbours, else-levels-w-via-else-levels-w}

pub loop-w-preserved : goal.loop-w-preserved
loop-w-preserved c =
    let G = c.args.graph.now in
    let old = c.args.levels.now in
    let now = c.loop-w.levels in
    let at = c.loop-w.w in
    let low : at < G.size = omega arith in
    elim c.if-levels-w.branch [
      | then-levels-w+then-mark_neighbours w ↦
          subst (λ g. IsAdvance G old c.if-levels-w.levels c.args.level g (at + 1)) (sym w.grew-is)
          (subst (λ ls. IsAdvance G old ls c.args.level true (at + 1)) (sym w.levels-is)
          (IsAdvance-more G old now w.mark_neighbours.new.levels c.args.level c.loop-w.grew w.mark_neighbours.result at c.requires.reached low w.if-levels-w.true
          w.mark_neighbours.ensures.marked w.mark_neighbours.ensures.fewer w.if-mark_neighbours.true c.loop-w.invariant))
      | else-levels-w w ↦
          subst (λ g. IsAdvance G old c.if-levels-w.levels c.args.level g (at + 1)) (sym w.grew-is)
          (elim w.else-levels-w.branch [
            | else-levels-w-via-then-levels-w+else-mark_neighbours v ↦
                subst (λ ls. IsAdvance G old ls c.args.level c.loop-w.grew (at + 1)) (sym (w.levels-is ∙ v.levels-is))
                (IsAdvance-still G old now v.mark_neighbours.new.levels c.args.level c.loop-w.grew v.mark_neighbours.result at c.requires.reached low v.if-levels-w.true
                v.mark_neighbours.ensures.marked v.mark_neighbours.ensures.same v.if-mark_neighbours.false c.loop-w.invariant)
            | else-levels-w-via-else-levels-w v ↦
                subst (λ ls. IsAdvance G old ls c.args.level c.loop-w.grew (at + 1)) (sym (w.levels-is ∙ v.levels-is))
                (IsAdvance-skip G old now c.args.level c.loop-w.grew at c.requires.reached v.if-levels-w.false c.loop-w.invariant)
          ])
    ]
