use Rattle.std.proofs.Common.{◌≡◌, sym, ap, ◌∙◌, refl, arith}
use Rattle.text_lines.specs.LineNumbers.{words_left}
use Rattle.text_lines.proofs.LineWords.{fills_more, fills_result, fills_values}
use Rattle.text_lines.proofs.WordsLeft.{words_few, words_bad}
use Rattle.text_lines.proofs.line_numbers.fill_numbers.Goals as goal

pub returns-in_default-clause-test : goal.returns-in_default-clause-test
returns-in_default-clause-test c =
    sym (words_few c.args.limit c.args.count c.loop-place.place (words_left c.args.rest) (sym (ap words_left c.in_default.is) ∙ c.loop-place.invariant.left) (omega (arith, c.loop-place-test.true)))

pub returns-in_default-number_to-clause-test : goal.returns-in_default-number_to-clause-test
returns-in_default-number_to-clause-test c =
    sym (words_bad c.args.limit c.args.count c.loop-place.place (words_left c.args.rest) (words_left c.loop-place.left) (words_left c.cut_word.result.1) c.cut_word.result.0.now c.loop-place.invariant.left
    (ap words_left c.in-Some.is ∙ c.cut_word.ensures) c.in_default-number_to.ensures)

pub loop-place-preserved : goal.loop-place-preserved
loop-place-preserved c =
    fills_more c.args.limit c.args.count (words_left c.args.rest) c.loop-place.place c.in-Some-number_to.number c.loop-place.numbers _ (words_left c.loop-place.left) (words_left c.cut_word.result.1) c.cut_word.result.0.now
    c.loop-place.invariant (omega (arith, c.loop-place-test.true)) (ap words_left c.in-Some.is ∙ c.cut_word.ensures) c.in-Some-number_to.ensures.0 c.in-Some-number_to.ensures.1 refl

pub returns-clause-test : goal.returns-clause-test
returns-clause-test c =
    fills_result c.args.limit c.args.count (words_left c.args.rest) c.loop-place.place c.loop-place.numbers c.loop-place.left c.is_none.result c.is_none.ensures c.loop-place.invariant
    (omega (arith, c.loop-place-test.false, c.loop-place.auto.place-end))

pub returns-clause-numbers : goal.returns-clause-numbers
returns-clause-numbers c = λ e.
    let end : c.loop-place.place ≡ c.args.count = omega (arith, c.loop-place-test.false, c.loop-place.auto.place-end) in
    let test = fills_result c.args.limit c.args.count (words_left c.args.rest) c.loop-place.place c.loop-place.numbers c.loop-place.left c.is_none.result c.is_none.ensures c.loop-place.invariant end in
    fills_values c.args.limit c.args.count (words_left c.args.rest) c.loop-place.place c.loop-place.numbers (words_left c.loop-place.left) c.loop-place.invariant end (sym test ∙ e)
