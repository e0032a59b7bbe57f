use Rattle.std.proofs.Common.{◌++◌, [], ◌∷◌, ap, ◌∙◌}
use Rattle.std.specs.Prelude.{codes}
use Rattle.std.proofs.lemmas.Result.{on_ok_weaker}
use Rattle.text_lines.specs.Joined.{spaced}
use Rattle.neighbour_answers.specs.TableAnswer.{is_nonzero_in, number_line}
use Rattle.neighbour_answers.proofs.Listed.{dropped_line, kept_line, nonzero_is, zero_is}
use Rattle.neighbour_answers.proofs.table_numbers.put_number.Goals as goal

pub returns-then-number-eq0 : goal.returns-then-number-eq0
returns-then-number-eq0 c =
    let A = c.args.table.now in
    dropped_line (is_nonzero_in A) (number_line A) c.args.text.now (c.args.k, c.args.i, c.args.j)
    (zero_is A c.args.k c.args.i c.args.j c.value-number.result c.value-number.ensures c.if-number-eq0.true)

pub returns : goal.returns
returns c =
    let A = c.args.table.now in
    let i = c.args.i in
    let j = c.args.j in
    let k = c.args.k in
    let old = c.args.text.now in
    let some = nonzero_is A k i j c.value-number.result c.value-number.ensures c.if-number-eq0.false in
    let line = ap (λ n. old ++ (spaced (i ∷ j ∷ k ∷ n ∷ []) ++ codes "\n")) c.value-number.ensures in
    on_ok_weaker c.put_line.result (λ e. kept_line (is_nonzero_in A) (number_line A) old c.put_line.new.self (k, i, j) some (e ∙ line)) c.put_line.ensures
