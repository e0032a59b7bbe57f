use Rattle.std.proofs.Common.{◌∙◌, ap, sym}
use Rattle.std.specs.Prelude.{is_some, not}
use Rattle.cohere_inputs.specs.NumberWords.{is_number}
use Rattle.cohere_inputs.proofs.WordNumbers.{one_fails, one_more_passes}
use Rattle.cohere_inputs.proofs.number_words.are_numbers.Goals as goal

pub returns-then-is_none : goal.returns-then-is_none
returns-then-is_none c =
    one_fails is_number c.args.words.now c.loop-word.word-index c.word-item.result c.loop-word-test.true c.word-item.is
    (ap is_number (sym c.as_bytes.ensures.value) ∙ ap is_some (sym c.read_number.ensures.number) ∙ c.is_none.ensures ∙ ap not c.if-is_none.true)

pub loop-word-preserved : goal.loop-word-preserved
loop-word-preserved c =
    one_more_passes is_number c.args.words.now c.loop-word.word-index c.word-item.result c.loop-word-test.true c.word-item.is
    (ap is_number (sym c.as_bytes.ensures.value) ∙ ap is_some (sym c.read_number.ensures.number) ∙ c.is_none.ensures ∙ ap not c.if-is_none.false)
    c.loop-word.invariant
