use Rattle.std.proofs.Common.{◌≡◌, true, take, refl, sym, ◌∙◌, arith, rules, tests}
use Rattle.std.specs.Prelude.{codes, bytes_eq}
use Rattle.std.proofs.lemmas.List.{take_all}
use Rattle.text_lines.specs.LineNumbers.{words_left}
use Rattle.equitable.proofs.LineReadings.{step_read}
use Rattle.equitable.proofs.line_numbers.read_step.Goals as goal

pub returns : goal.returns
returns c =
    let numbers = c.fill_numbers-good.new.numbers in
    let letter : bytes_eq c.cut_word.result.0.now (codes "S") ≡ true = search (rules, tests) in
    let good = c.if-not-good.false in
    let taken : take 2 numbers ≡ numbers = take_all 2 numbers (omega arith) in
    step_read c.args.line.now c.cut_word.result.0.now (words_left c.cut_word.result.1) numbers _ _ c.cut_word.ensures letter
    (sym c.fill_numbers-good.ensures.test ∙ good) (sym taken ∙ c.fill_numbers-good.ensures.numbers good) refl refl
