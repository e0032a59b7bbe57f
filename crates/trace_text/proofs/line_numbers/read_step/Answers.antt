use Rattle.std.proofs.Common.{◌≡◌, true, arith, rules, tests}
use Rattle.std.specs.Prelude.{codes, bytes_eq}
use Rattle.trace_text.proofs.StepLines.{diag_read, flip_read, tri_read, round_read}
use Rattle.trace_text.proofs.line_numbers.read_step.Goals as goal
use Rattle.text_lines.specs.LineNumbers.{words_left}

pub returns-then-eq : goal.returns-then-eq
returns-then-eq c =
    let letter : bytes_eq c.cut_word.result.0.now (codes "D") ≡ true = search (rules, tests) in
    let s = diag_read c.args.version c.args.line.now c.cut_word.result.0.now (words_left c.cut_word.result.1) c.in_ok-numbers.numbers c.cut_word.ensures letter c.in_ok-numbers.ensures.0 c.in_ok-numbers.ensures.1 in
    (s.spelled, s.small)

pub returns-then-eq-2 : goal.returns-then-eq-2
returns-then-eq-2 c =
    let letter : bytes_eq c.cut_word.result.0.now (codes "F") ≡ true = search (rules, tests) in
    let s = flip_read c.args.version c.args.line.now c.cut_word.result.0.now (words_left c.cut_word.result.1) c.in_ok-numbers-2.numbers c.cut_word.ensures letter c.in_ok-numbers-2.ensures.0 c.in_ok-numbers-2.ensures.1 in
    (s.spelled, s.small)

pub returns-then-eq-3 : goal.returns-then-eq-3
returns-then-eq-3 c =
    let letter : bytes_eq c.cut_word.result.0.now (codes "T") ≡ true = search (rules, tests) in
    let s = tri_read c.args.version c.args.line.now c.cut_word.result.0.now (words_left c.cut_word.result.1) c.in_ok-numbers-3.numbers c.cut_word.ensures letter c.in_ok-numbers-3.ensures.0 c.in_ok-numbers-3.ensures.1 in
    (s.spelled, s.small)

pub returns-then-eq-4 : goal.returns-then-eq-4
returns-then-eq-4 c =
    let letter : bytes_eq c.cut_word.result.0.now (codes "R") ≡ true = search (rules, tests) in
    let two : c.args.version ≡ 2 = omega arith in
    let s = round_read c.args.version c.args.line.now c.cut_word.result.0.now (words_left c.cut_word.result.1) c.cut_word.ensures letter c.in_ok-step_numbers.ensures.0 two in
    (s.spelled, s.small)
