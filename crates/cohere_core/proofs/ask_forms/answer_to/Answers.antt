use Rattle.std.proofs.Common.{sym, subst}
use Rattle.std.specs.Prelude.{IfOk}
use Rattle.std.proofs.lemmas.Result.{IfOk-weaker}
use Rattle.cohere_inputs.specs.Asked.{asked_question}
use Rattle.cohere_inputs.specs.Task.{Common}
use Rattle.cohere_inputs.specs.declared.ask_forms.Question as code
use Rattle.cohere_core.specs.AskForms.{AnswersQuestion}
use Rattle.neighbour_answers.specs.LatticeAnswer.{AnswersCommon}
use Rattle.cohere_core.proofs.ask_forms.answer_to.Goals as goal

pub returns-in_ok-closed-in-Common : goal.returns-in_ok-closed-in-Common
returns-in_ok-closed-in-Common g c =
    let C = c.args.relation.now in
    let K = c.in_ok-closed-in-Common.closed.matrix in
    let i = c.in-Common.i in
    let j = c.in-Common.j in
    let told = IfOk-weaker c.common_answer.result (λ text. AnswersCommon K i j text.items) (λ text. AnswersQuestion C (Common i j) text.items)
    (λ text answers. (K, c.in_ok-closed-in-Common.ensures.closure, answers)) c.common_answer.ensures in
    subst (λ (question : code.Question). IfOk c.common_answer.result (λ text. AnswersQuestion C (asked_question question) text.items)) (sym c.in-Common.is) told
