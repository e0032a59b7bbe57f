use Rattle.std.proofs.Common.{◌*◌, ap, subst, ◌∙◌, arith}
use Rattle.products.specs.Steps.{AreParts, label_of}
use Rattle.products.proofs.Filling.{filled_more, parts_filled}
use Rattle.products.proofs.labelling.labels.Goals as goal

pub loop-q-preserved : goal.loop-q-preserved
loop-q-preserved c =
    let n = c.size.result * c.size-2.result in
    record {
      size = c.loop-q.invariant.size;
      first = filled_more n _ c.loop-q.first _ c.loop-p.p c.loop-q.q _ c.loop-q.invariant.first c.loop-q-test.true (omega arith) c.set.ensures.points (c.set.ensures.pair ∙ ap (λ w. w.0) c.label-parts.ensures) c.set.ensures.others;
      second = filled_more n _ c.loop-q.second _ c.loop-p.p c.loop-q.q _ c.loop-q.invariant.second c.loop-q-test.true (omega arith) c.set-in-loop-q.ensures.points (c.set-in-loop-q.ensures.pair ∙ ap (λ w. w.1) c.label-parts.ensures) c.set-in-loop-q.ensures.others;
    }

pub returns : goal.returns
returns c =
    let n = c.size.result * c.size-2.result in
    let label = label_of c.args.kind c.args.a.now c.args.b.now in
    subst (λ k. AreParts k label c.loop-p.first c.loop-p.second) c.loop-p.invariant.size
    (parts_filled n c.loop-p.p label c.loop-p.first c.loop-p.second (omega arith) c.loop-p.invariant.first c.loop-p.invariant.second)
