use Rattle.std.proofs.Common.{Err, inl, inr, ap, ◌∙◌}
use Rattle.std.proofs.lemmas.Result.{IfOk-weaker}
use Rattle.neighbour_answers.specs.RingAnswer.{ring_text_of}
use Rattle.neighbour_answers.proofs.ring_answers.answer_over.Goals as goal

pub returns-in-Ok : goal.returns-in-Ok
returns-in-Ok c =
    IfOk-weaker c.ring_text.result _ _
    (λ text e. inr (c.in-Ok.ensures.counted, inr (c.in-Ok.ensures.within, (c.in-Ok.numbers, c.in-Ok.ensures.ring, e ∙ (λ i. ring_text_of (c.order.ensures.size i) (c.as_slice.ensures i))))))
    c.ring_text.ensures

pub returns-in-Err-ColourCount : goal.returns-in-Err-ColourCount
returns-in-Err-ColourCount c =
    let few = c.in-Err-ColourCount.ensures.count.0 (ap Err c.in-Err-ColourCount.field-0-is) in
    IfOk-weaker c.refused_text.result _ _ (λ text e. inl (few, e)) c.refused_text.ensures

pub returns-in-Err-ColourRange : goal.returns-in-Err-ColourRange
returns-in-Err-ColourRange c =
    let great = c.in-Err-ColourRange.ensures.range.0 (ap Err c.in-Err-ColourRange.field-0-is) in
    IfOk-weaker c.refused_text-in-Err-ColourRange.result _ _ (λ text e. inr (great.0, inl (great.1, e))) c.refused_text-in-Err-ColourRange.ensures
