use Rattle.std.proofs.Common.{◌≡◌, ◌+◌, ◌*◌, ◌++◌, true, take, ap, sym, subst, ◌∙◌, arith, rules, tests}
use Rattle.trace_text.specs.TraceFault.{is_row_line}
use Rattle.trace_text.proofs.MatrixRows.{rows_more, rows_all}
use Rattle.trace_text.proofs.reader.read_matrix.Goals as goal
use Rattle.text_lines.specs.LineNumbers.{numbers_on}

pub loop-x-preserved : goal.loop-x-preserved
loop-x-preserved c =
    let inv = c.loop-x.invariant in
    let size = inv.size in
    let ensured = c.read_row.ensures in
    let read : c.read_row.result ≡ true = search (rules, tests) in
    let good : is_row_line c.args.size c.in_ok-row.row.now ≡ true = ap (λ n. is_row_line n c.in_ok-row.row.now) (sym size) ∙ sym ensured.test ∙ read in
    let taken : take (c.loop-x.x * c.args.size + c.args.size) c.read_row.new.colouring.colours ≡ take (c.loop-x.x * c.args.size) c.loop-x.colours.colours ++ numbers_on c.in_ok-row.row.now =
    subst (λ n. take (c.loop-x.x * n + n) c.read_row.new.colouring.colours ≡ take (c.loop-x.x * n) c.loop-x.colours.colours ++ numbers_on c.in_ok-row.row.now) size (ensured.row read) in
    rows_more c.args.size c.loop-x.x c.args.cursor.now.line c.args.cursor.now.lines c.loop-x.cursor.line c.loop-x.cursor.lines c.take.new.self.lines c.in_ok-row.row.now c.loop-x.colours c.read_row.new.colouring
    inv (omega (arith, c.loop-x-test.true)) c.in_ok-row.ensures.taken good (ensured.points ∙ size) ensured.colouring taken c.take.new.self.line c.in_ok-row.ensures.number

pub returns-clause-rows : goal.returns-clause-rows
returns-clause-rows c =
    (rows_all c.args.size c.loop-x.x c.args.cursor.now.line c.args.cursor.now.lines c.loop-x.cursor.line c.loop-x.cursor.lines c.loop-x.colours c.requires.few c.loop-x.invariant
    (omega (arith, c.loop-x-test.false, c.loop-x.auto.x-end))).rows
