use Rattle.std.proofs.Common.{◌+◌, ◌*◌, ◌<◌, ◌≡◌, length, sym, ap, ◌∙◌, arith, refl}
use Rattle.pair_colours.proofs.Places.{place_below}
use Rattle.pair_colours.specs.declared.coloured_pairs.TheConstants.{MOST_COLOUR}
use Rattle.trace_text.proofs.RowWords.{row_more, row_result, row_whole}
use Rattle.trace_text.proofs.line_numbers.read_row.Goals as goal
use Rattle.text_lines.specs.LineNumbers.{between_spaces, words_left}
use Rattle.text_lines.proofs.WordsLeft.{words_few, words_bad}

pub returns-in_default-clause-test : goal.returns-in_default-clause-test
returns-in_default-clause-test c =
    sym (words_few MOST_COLOUR c.args.colouring.now.size c.loop-y.y (between_spaces c.args.line.now) (sym (ap words_left c.in_default.is) ∙ c.loop-y.invariant.left) (omega (arith, c.loop-y-test.true, c.size-y-end.ensures.points)))

pub returns-in_default-number_to-clause-test : goal.returns-in_default-number_to-clause-test
returns-in_default-number_to-clause-test c =
    sym (words_bad MOST_COLOUR c.args.colouring.now.size c.loop-y.y (between_spaces c.args.line.now) (words_left c.loop-y.rest) (words_left c.cut_word.result.1) c.cut_word.result.0.now c.loop-y.invariant.left
    (ap words_left c.in-Some.is ∙ c.cut_word.ensures) c.in_default-number_to.ensures)

pub loop-y-preserved : goal.loop-y-preserved
loop-y-preserved c =
    let inv = c.loop-y.invariant in
    let y : c.loop-y.y < c.args.colouring.now.size = omega (arith, c.loop-y-test.true, c.size-y-end.ensures.points) in
    let inside : c.args.x * c.args.colouring.now.size + c.loop-y.y < length c.loop-y.colouring.colours =
    omega (arith, place_below c.args.colouring.now.size c.args.x c.loop-y.y c.requires.row y, inv.colouring.has_pairs ∙ ap (λ n. n * n) inv.size) in
    row_more c.args.line.now c.args.colouring.now c.loop-y.colouring c.set.new.self c.args.x c.loop-y.y c.in-Some-number_to.colour (words_left c.loop-y.rest) (words_left c.cut_word.result.1) c.cut_word.result.0.now
    inv (ap words_left c.in-Some.is ∙ c.cut_word.ensures) c.in-Some-number_to.ensures.0 c.in-Some-number_to.ensures.1 c.requires.row y c.set.ensures.points c.set.ensures.changed inside

pub returns-clause-test : goal.returns-clause-test
returns-clause-test c =
    let inv = c.loop-y.invariant in
    row_result c.args.line.now c.args.colouring.now.size c.loop-y.y c.loop-y.rest c.is_none.result c.is_none.ensures inv.left (omega (arith, c.loop-y-test.false, c.loop-y.auto.y-end, c.size-y-end.ensures.points)) inv.enough inv.good

pub returns-clause-row : goal.returns-clause-row
returns-clause-row c = λ e.
    let inv = c.loop-y.invariant in
    let end : c.loop-y.y ≡ c.args.colouring.now.size = omega (arith, c.loop-y-test.false, c.loop-y.auto.y-end, c.size-y-end.ensures.points) in
    let test = row_result c.args.line.now c.args.colouring.now.size c.loop-y.y c.loop-y.rest c.is_none.result c.is_none.ensures inv.left end inv.enough inv.good in
    row_whole c.args.line.now c.args.colouring.now.size c.loop-y.y c.args.colouring.now c.loop-y.colouring c.args.x refl end (sym test ∙ e) inv.row
