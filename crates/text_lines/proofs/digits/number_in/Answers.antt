use Rattle.std.proofs.Common.{◌≡◌, sym, ap, ◌∙◌, arith}
use Rattle.std.specs.Prelude.{decimal}
use Rattle.std.proofs.lemmas.Fmt.{parse-decimal}
use Rattle.std.proofs.lemmas.Slice.Eq.{bytes_eq-Decides}
use Rattle.text_lines.proofs.digits.number_in.Goals as goal

pub returns-in-Err : goal.returns-in-Err
returns-in-Err c = λ n form.
    let is = parse-decimal 32 n c.args.text.now c.parse.result form.limit (omega (arith, form.limit)) form.digits c.parse.ensures.value.0 in
    cc (is, c.in-Err.is)

pub returns-else-eq : goal.returns-else-eq
returns-else-eq c = λ n form.
    let is = parse-decimal 32 n c.args.text.now c.parse.result form.limit (omega (arith, form.limit)) form.digits c.parse.ensures.value.0 in
    let same : n ≡ c.in-Ok.number = cc (is, c.in-Ok.is) in
    let text : c.format.result.now ≡ c.args.text.now = c.format.ensures.text ∙ ap decimal (sym same) ∙ sym form.digits in
    let equal = (bytes_eq-Decides c.format.result.now c.args.text.now).1 text in
    cc (equal, c.eq.ensures, c.if-eq.false)
