use Rattle.std.proofs.Common.{◌≡◌, ◌∙◌, Err, ap}
use Rattle.std.specs.Prelude.{codes}
use Rattle.std.proofs.lemmas.Result.{IfOk-weaker}
use Rattle.report_text.specs.EditLines.{refused_text_of}
use Rattle.cohere_core.specs.ClosedSubsets.{AnswersQuotient}
use Rattle.cohere_core.proofs.Divisions.{not_closed_answer}
use Rattle.cohere_core.proofs.subset_queries.quotient_answer.Goals as goal

pub returns-in-Err-NotClosed : goal.returns-in-Err-NotClosed
returns-in-Err-NotClosed c =
    IfOk-weaker c.refused_text-in-Err-NotClosed.result (λ text. text.items ≡ refused_text_of (codes "NotClosed"))
    (λ text. AnswersQuotient c.args.closure.now c.args.set.now text.items)
    (λ text same. not_closed_answer c.quotient.result c.args.closure.now c.args.set.now text.items _ (c.in-Err-NotClosed.is ∙ ap Err c.in-Err-NotClosed.field-0-is) c.quotient.ensures.fibres c.quotient.ensures.closed same)
    c.refused_text-in-Err-NotClosed.ensures
