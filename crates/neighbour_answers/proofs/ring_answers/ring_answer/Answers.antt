use Rattle.std.proofs.Common.{Err, inl, inr, ap, subst}
use Rattle.std.proofs.lemmas.Result.{IfOk-weaker}
use Rattle.pair_colours.specs.Colouring.{PairColouring}
use Rattle.neighbour_answers.specs.RingAnswer.{AnswersOverGroup}
use Rattle.neighbour_answers.proofs.ring_answers.ring_answer.Goals as goal

pub returns-in-Ok : goal.returns-in-Ok
returns-in-Ok c =
    IfOk-weaker c.answer_over.result _ _
    (λ text a. inr (c.in-Ok.ensures.group, subst (λ (T : PairColouring). AnswersOverGroup T c.args.colours.now text.items) c.in-Ok.ensures.table a))
    c.answer_over.ensures

pub returns-in-Err-NotGroup : goal.returns-in-Err-NotGroup
returns-in-Err-NotGroup c =
    let none = c.in-Err-NotGroup.ensures.fault.0 (ap Err c.in-Err-NotGroup.field-0-is) in
    IfOk-weaker c.refused_text.result _ _ (λ text e. inl (none, e)) c.refused_text.ensures
