use Rattle.std.proofs.Common.{◌∙◌, arith}
use Rattle.split_cells.proofs.Exchanged.{AreLabels-start}
use Rattle.split_cells.proofs.labels.Labels.new.Goals as goal

pub returns-clause-labels : goal.returns-clause-labels
returns-clause-labels c =
    AreLabels-start c.args.bound c.in_ok-outer.outer.items c.in_ok-inner.inner.items c.in_ok-outer.ensures (c.in_ok-inner.ensures.items ∙ c.deref.ensures.value)

pub returns-clause-same : goal.returns-clause-same
returns-clause-same c =
    λ k l. (AreLabels-start c.args.bound c.in_ok-outer.outer.items c.in_ok-outer.outer.items c.in_ok-outer.ensures (λ i. c.in_ok-outer.outer.items)).rest k (omega arith) l
