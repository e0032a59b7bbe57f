use Rattle.std.proofs.Common.{subst, refl, ◌∙◌}
use Rattle.std.specs.Io.KnownBytes.{Appends}
use Rattle.cohere_core.specs.declared.answering.SessionFault.TheVariants.{SinkFailed, NoMemory}
use Rattle.cohere_core.specs.Added.{AddsUntil}
use Rattle.neighbour_answers.specs.CellsAnswer.{TellsCellVerdict, cell_verdict_text}
use Rattle.cohere_core.proofs.CellsOutputs.{has_cell_line}
use Rattle.cohere_core.proofs.Fronts.{nothing_until, part_until}
use Rattle.cohere_core.proofs.Runs.{at_fault}
use Rattle.cohere_core.proofs.cells_form.judge_cells.Goals as goal

pub returns-in_err-verdict-clause-front : goal.returns-in_err-verdict-clause-front
returns-in_err-verdict-clause-front g c =
    let line = has_cell_line c.args.claim.now in
    at_fault (λ fault. AddsUntil fault (TellsCellVerdict c.args.claim.now) _ _) c.from_residual.result NoMemory c.from_residual.ensures.1 (nothing_until (TellsCellVerdict c.args.claim.now) line.0 _ line.1)

pub returns-in_err-text-clause-front : goal.returns-in_err-text-clause-front
returns-in_err-text-clause-front g c =
    let line = has_cell_line c.args.claim.now in
    at_fault (λ fault. AddsUntil fault (TellsCellVerdict c.args.claim.now) _ _) c.from_residual-in_err-text.result NoMemory c.from_residual-in_err-text.ensures.1
    (nothing_until (TellsCellVerdict c.args.claim.now) line.0 _ line.1)

pub returns-in_err-put_all-clause-front : goal.returns-in_err-put_all-clause-front
returns-in_err-put_all-clause-front g c =
    at_fault (λ fault. AddsUntil fault (TellsCellVerdict c.args.claim.now) _ _) c.from_residual-in_err-put_all.result SinkFailed c.from_residual-in_err-put_all.ensures.1
    (part_until (TellsCellVerdict c.args.claim.now) (cell_verdict_text c.in_ok-verdict.verdict) c.deref.result.now _ _ (c.in_ok-verdict.verdict, c.in_ok-verdict.ensures, refl)
    (c.deref.ensures.value ∙ c.in_ok-text.ensures) c.in_err-put_all.ensures.part)

pub returns-clause-all : goal.returns-clause-all
returns-clause-all g c =
    subst (Appends (g.O.Sink.written c.args.out.now) (g.O.Sink.written c.put_all.new.sink)) (c.deref.ensures.value ∙ c.in_ok-text.ensures) c.in_ok-put_all.ensures.all
