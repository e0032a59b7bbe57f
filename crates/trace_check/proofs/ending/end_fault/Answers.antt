use Rattle.std.proofs.Common.{sym, ◌∙◌}
use Rattle.std.proofs.lemmas.Bool.{false≢true}
use Rattle.trace_text.proofs.StageLoops.{not_coherent_at, wrong_closure_at}
use Rattle.trace_check.proofs.ending.end_fault.Goals as goal

pub returns-then-not-coherent-clause-some : goal.returns-then-not-coherent-clause-some
returns-then-not-coherent-clause-some c = λ line C.
    not_coherent_at line (record { colours = C; partition = c.args.cells.now }) c.args.closure.now
    (λ h. false≢true (sym c.if-not-coherent.true ∙ c.in_ok-coherent.ensures.1 h))

pub returns-then-not-shown-clause-some : goal.returns-then-not-shown-clause-some
returns-then-not-shown-clause-some c = λ line C.
    wrong_closure_at line (record { colours = C; partition = c.args.cells.now }) c.args.closure.now
    (c.in_ok-coherent.ensures.0 c.if-not-coherent.false)
    (λ e. false≢true (sym c.if-not-shown.true ∙ c.in_ok-shown.ensures.1 e))
