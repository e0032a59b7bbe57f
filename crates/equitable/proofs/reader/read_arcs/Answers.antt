use Rattle.std.proofs.Common.{Some, sym, ap, ◌∙◌, arith}
use Rattle.equitable.specs.declared.text_faults.CellWord.TheVariants.{Row}
use Rattle.equitable.proofs.ArcsRead.{rows_more, rows_all, row_bad}
use Rattle.equitable.proofs.reader.read_arcs.Goals as goal

pub loop-x-preserved : goal.loop-x-preserved
loop-x-preserved c =
    let read = rw c.in-Some.is at c.in_ok-row.ensures in
    rows_more c.args.size c.loop-x.x c.args.cursor.now.line c.args.cursor.now.lines c.loop-x.cursor.line c.loop-x.cursor.lines
    c.next_line.new.cursor.lines c.in_ok-bytes.bytes.now c.deref.result.now c.loop-x.arcs c.set_row.new.arcs
    c.loop-x.invariant (omega (arith, c.loop-x-test.true)) c.in_ok-bytes.ensures.taken read.0 (c.deref.ensures.value
    ∙ read.1) c.set_row.ensures.points c.set_row.ensures.pairs c.set_row.ensures.row c.next_line.new.cursor.line c.in_ok-bytes.ensures.number

pub returns-in_default-clause-fault : goal.returns-in_default-clause-fault
returns-in_default-clause-fault c =
    let bad = rw c.in_default.is at c.in_ok-row.ensures in
    row_bad c.args.size c.loop-x.x c.args.cursor.now.line c.args.cursor.now.lines c.loop-x.cursor.line c.loop-x.cursor.lines
    c.next_line.new.cursor.lines c.in_ok-bytes.bytes.now c.loop-x.arcs
    c.loop-x.invariant (omega (arith, c.loop-x-test.true)) c.in_ok-bytes.ensures.taken bad
    ∙ ap (λ l. Some (l, Row)) (sym c.line-line.ensures.line)

pub returns-clause-rows : goal.returns-clause-rows
returns-clause-rows c =
    (rows_all c.args.size c.loop-x.x c.args.cursor.now.line c.args.cursor.now.lines c.loop-x.cursor.line c.loop-x.cursor.lines c.loop-x.arcs
    c.requires.few c.loop-x.invariant
    (omega (arith, c.loop-x-test.false, c.loop-x.auto.x-end))).rows
