use Rattle.std.proofs.Common.{None, ap, ◌∙◌, sym, subst, arith}
use Rattle.std.specs.Prelude.{IsUtf8}
use Rattle.std.proofs.lemmas.Fmt.{IsAscii-decimal}
use Rattle.std.proofs.lemmas.Str.{IsUtf8-from_ascii}
use Rattle.text_lines.specs.Number.{number_of}
use Rattle.text_lines.proofs.Numbers.{is_number_of}
use Rattle.text_lines.proofs.digits.read_number.Goals as goal

pub returns-in-Err-clause-none : goal.returns-in-Err-clause-none
returns-in-Err-clause-none c = λ n form.
    c.in-Err.ensures.cases.0 (subst IsUtf8 (sym form.digits) (IsUtf8-from_ascii _ (IsAscii-decimal n (omega (arith, form.limit)))))

pub returns-in-Ok-clause-number : goal.returns-in-Ok-clause-number
returns-in-Ok-clause-number c = is_number_of c.in-Ok.text.now c.number_in.result c.number_in.ensures ∙ ap number_of c.in-Ok.ensures.cases.0

pub returns-in-Err-clause-number : goal.returns-in-Err-clause-number
returns-in-Err-clause-number c = is_number_of c.args.word.now None (λ n form. c.in-Err.ensures.cases.0 (subst IsUtf8 (sym form.digits) (IsUtf8-from_ascii _ (IsAscii-decimal n (omega (arith, form.limit))))))
