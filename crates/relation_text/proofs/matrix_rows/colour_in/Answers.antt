use Rattle.std.proofs.Common.{◌+◌, arith}
use Rattle.std.proofs.lemmas.Str.Parse.{digits_value-take-le}
use Rattle.relation_text.proofs.ColourDigits.{one_more}
use Rattle.relation_text.proofs.matrix_rows.colour_in.Goals as goal

pub returns-then-colour-gt-MOST_COLOUR : goal.returns-then-colour-gt-MOST_COLOUR
returns-then-colour-gt-MOST_COLOUR c =
    let i = c.loop-digit.digit-index in
    let more = one_more c.args.digits.now i c.loop-digit-test.true c.requires in
    let part = digits_value-take-le 10 c.args.digits.now (i + 1) (omega arith) in
    let so_far = c.loop-digit.invariant.0 in
    let from = c.from.ensures in
    omega arith

pub loop-digit-preserved : goal.loop-digit-preserved
loop-digit-preserved c =
    let i = c.loop-digit.digit-index in
    let more = one_more c.args.digits.now i c.loop-digit-test.true c.requires in
    let so_far = c.loop-digit.invariant.0 in
    let from = c.from.ensures in
    (omega arith, omega arith)
