use Rattle.std.proofs.Common.{sym, ◌∙◌}
use Rattle.std.proofs.lemmas.Bool.{false≢true}
use Rattle.trace_check.proofs.Steps.{no_such_class, idle_step}
use Rattle.trace_check.proofs.replaying.make.Goals as goal

pub returns-then-not-named-clause-refused : goal.returns-then-not-named-clause-refused
returns-then-not-named-clause-refused c = λ line.
    no_such_class line c.args.cells.now c.args.step (λ h. false≢true (sym c.if-not-named.true ∙ c.names-named.ensures.1 h))

pub returns-then-not-split-clause-refused : goal.returns-then-not-split-clause-refused
returns-then-not-split-clause-refused c = λ line.
    idle_step line c.args.cells.now c.args.step (c.names-named.ensures.0 c.if-not-named.false) (λ h. false≢true (sym c.if-not-split.true ∙ c.in_ok-split.ensures.split.1 h))
