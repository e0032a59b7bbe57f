use Rattle.std.proofs.Common.{◌≡◌, ◌∙◌, Err, ap}
use Rattle.std.specs.Prelude.{codes}
use Rattle.std.proofs.lemmas.Result.{IfOk-weaker}
use Rattle.report_text.specs.EditLines.{refused_text_of}
use Rattle.cohere_core.specs.ClosedSubsets.{AnswersSub}
use Rattle.cohere_core.proofs.Divisions.{not_closed_answer}
use Rattle.cohere_core.proofs.subset_queries.sub_answer.Goals as goal

pub returns-in-Err-NotClosed : goal.returns-in-Err-NotClosed
returns-in-Err-NotClosed c =
    IfOk-weaker c.refused_text-in-Err-NotClosed.result (λ text. text.items ≡ refused_text_of (codes "NotClosed"))
    (λ text. AnswersSub c.args.closure.now c.args.x c.args.set.now text.items)
    (λ text same. not_closed_answer c.subscheme.result c.args.closure.now c.args.set.now text.items _ (c.in-Err-NotClosed.is ∙ ap Err c.in-Err-NotClosed.field-0-is) c.subscheme.ensures.fibres c.subscheme.ensures.closed same)
    c.refused_text-in-Err-NotClosed.ensures
