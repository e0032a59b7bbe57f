use Rattle.std.proofs.Common.{subst}
use Rattle.std.specs.Io.KnownBytes.{Appends}
use Rattle.cohere_inputs.specs.Asked.{asked_question}
use Rattle.cohere_core.specs.declared.answering.SessionFault.TheVariants.{SinkFailed, NoMemory}
use Rattle.cohere_core.specs.Added.{AddsUntil}
use Rattle.cohere_core.specs.AskForms.{AnswersQuestion}
use Rattle.cohere_core.proofs.AskOutputs.{has_answer_to}
use Rattle.cohere_core.proofs.Fronts.{nothing_until, part_until}
use Rattle.cohere_core.proofs.Runs.{at_fault}
use Rattle.cohere_core.proofs.ask_forms.write_answer.Goals as goal

pub returns-in_err-text-clause-front : goal.returns-in_err-text-clause-front
returns-in_err-text-clause-front g c =
    let question = asked_question c.args.question.now in
    let t = has_answer_to c.args.relation.now question c.requires in
    at_fault (λ fault. AddsUntil fault (AnswersQuestion c.args.relation.now question) _ _) c.from_residual.result NoMemory c.from_residual.ensures.1
    (nothing_until (AnswersQuestion c.args.relation.now question) t.0 _ t.1)

pub returns-in_err-put_all-clause-front : goal.returns-in_err-put_all-clause-front
returns-in_err-put_all-clause-front g c =
    let question = asked_question c.args.question.now in
    at_fault (λ fault. AddsUntil fault (AnswersQuestion c.args.relation.now question) _ _) c.from_residual-in_err-put_all.result SinkFailed c.from_residual-in_err-put_all.ensures.1
    (part_until (AnswersQuestion c.args.relation.now question) c.in_ok-text.text.items c.deref.result.now _ _ c.in_ok-text.ensures c.deref.ensures.value c.in_err-put_all.ensures.part)

pub returns-clause-all : goal.returns-clause-all
returns-clause-all g c = (
  c.in_ok-text.text.items,
  c.in_ok-text.ensures,
  subst (Appends (g.O.Sink.written c.args.out.now) (g.O.Sink.written c.put_all.new.sink)) c.deref.ensures.value c.in_ok-put_all.ensures.all,
)
