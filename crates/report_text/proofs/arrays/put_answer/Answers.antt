use Rattle.std.proofs.Common.{◌≡◌, ◌++◌, OnOk, sym, subst}
use Rattle.drg_arrays.specs.declared.answer.ArrayAnswer.{ArrayAnswer}
use Rattle.report_text.specs.Arrays.{array_text_of}
use Rattle.report_text.proofs.arrays.put_answer.Goals as goal

pub returns-in-Disconnected : goal.returns-in-Disconnected
returns-in-Disconnected c =
    subst (λ (answer : ArrayAnswer). OnOk c.put_line.result (c.put_line.new.self ≡ c.args.text.now ++ array_text_of answer)) (sym c.in-Disconnected.is) c.put_line.ensures

pub returns-in-Irregular : goal.returns-in-Irregular
returns-in-Irregular c =
    subst (λ (answer : ArrayAnswer). OnOk c.put_line-in-Irregular.result (c.put_line-in-Irregular.new.self ≡ c.args.text.now ++ array_text_of answer))
    (sym c.in-Irregular.is) c.put_line-in-Irregular.ensures
