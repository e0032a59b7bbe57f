use Rattle.std.proofs.Common.{sym, ◌∙◌}
use Rattle.std.proofs.lemmas.Bool.{false≢true}
use Rattle.equitable.proofs.Following.{no_such_cell, idle_step}
use Rattle.equitable.proofs.checking.make.Goals as goal

pub returns-then-not-named-clause-refused : goal.returns-then-not-named-clause-refused
returns-then-not-named-clause-refused c = λ line.
    no_such_cell line c.args.arcs.now c.args.partition.now c.args.step (λ h. false≢true (sym c.if-not-named.true ∙ c.names-named.ensures.1 h))

pub returns-then-not-split-clause-refused : goal.returns-then-not-split-clause-refused
returns-then-not-split-clause-refused c = λ line.
    idle_step line c.args.arcs.now c.args.partition.now c.args.step (c.names-named.ensures.0 c.if-not-named.false)
    (λ h. false≢true (sym c.if-not-split.true ∙ c.in_ok-split.ensures.parts.1 h))

pub returns-clause-allowed : goal.returns-clause-allowed
returns-clause-allowed c = record { names = c.names-named.ensures.0 c.if-not-named.false; parts = c.in_ok-split.ensures.parts.0 c.if-not-split.false }
