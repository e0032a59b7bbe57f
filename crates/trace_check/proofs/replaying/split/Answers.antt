use Rattle.std.proofs.Common.{◌↔◌, IfOk, IsTrue, sym, subst}
use Rattle.trace_text.specs.declared.step_list.Step.{Step}
use Rattle.trace_text.specs.Split.{HasParts}
use Rattle.trace_check.proofs.replaying.split.Goals as goal

pub returns-in-Round-clause-split : goal.returns-in-Round-clause-split
returns-in-Round-clause-split c =
    subst (λ (s : Step). IfOk c.round.result (λ split. IsTrue split ↔ HasParts c.args.cells.now s)) (sym c.in-Round.is) c.round.ensures.split
