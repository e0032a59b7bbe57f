use Rattle.std.proofs.Common.{Some, sym, ap, ◌∙◌, arith}
use Rattle.text_lines.specs.Views.{part_of}
use Rattle.pair_colours.specs.Tests.{first_that_holds}
use Rattle.relation_text.specs.Faults.{row_tests}
use Rattle.relation_text.proofs.MatrixLoops.{has_row, rows_fault-few, rows_fault-here, ReadsRows-none, ReadsRows-more, matrix_fault-rows}
use Rattle.pair_colours.proofs.SameColours.{IsColouring-filled}
use Rattle.relation_text.proofs.matrices.read_matrix.Goals as goal

pub returns-in_default-clause-fault : goal.returns-in_default-clause-fault
returns-in_default-clause-fault c =
    rw c.text_fault-in_default.ensures
    (matrix_fault-rows c.args.len (part_of c.args.head) c.args.left c.in-Ok.size c.in-Ok.ensures.good c.in-Ok.ensures.size
    ∙ rows_fault-few c.args.len c.in-Ok.size c.args.left c.loop-x.colouring c.loop-x.x c.loop-x.left c.loop-x.invariant c.in_default.ensures.steps.0 c.loop-x-test.true)

pub text_fault-requires-in-Some-read_row : goal.text_fault-requires-in-Some-read_row
text_fault-requires-in-Some-read_row c =
    let has = has_row c.args.len c.in-Ok.size c.args.left c.loop-x.colouring c.loop-x.x c.loop-x.left c.next.new.self (part_of c.in-Some.row) c.loop-x.invariant c.in-Some.ensures.steps in
    omega (arith, has.within, c.in-Some-read_row.ensures.within)

pub returns-in-Some-read_row-clause-fault : goal.returns-in-Some-read_row-clause-fault
returns-in-Some-read_row-clause-fault c =
    let same = c.loop-x.invariant.points in
    rw c.text_fault-in-Some-read_row.ensures
    (matrix_fault-rows c.args.len (part_of c.args.head) c.args.left c.in-Ok.size c.in-Ok.ensures.good c.in-Ok.ensures.size
    ∙ rows_fault-here c.args.len c.in-Ok.size c.args.left c.loop-x.colouring c.loop-x.x c.loop-x.left c.next.new.self (part_of c.in-Some.row) c.in-Some-read_row.fault c.loop-x.invariant c.in-Some.ensures.steps c.loop-x-test.true
    (c.in-Some-read_row.ensures.fault ∙ ap (λ n. first_that_holds (row_tests 0 n (Some (part_of c.in-Some.row)))) same))

pub loop-x-preserved : goal.loop-x-preserved
loop-x-preserved c =
    let same = c.loop-x.invariant.points in
    let row = c.in_default-read_row.ensures.row in
    let others = c.in_default-read_row.ensures.others in
    ReadsRows-more c.args.len c.in-Ok.size c.args.left c.loop-x.colouring c.read_row.new.colouring c.loop-x.x c.loop-x.left c.next.new.self (part_of c.in-Some.row) c.loop-x.invariant c.in-Some.ensures.steps c.loop-x-test.true
    (sym (ap (λ n. first_that_holds (row_tests 0 n (Some (part_of c.in-Some.row)))) same) ∙ sym c.in_default-read_row.ensures.fault)
    c.in_default-read_row.ensures.colouring (c.in_default-read_row.ensures.points ∙ same)
    (λ v h. row v (omega (arith, h)))
    (λ u v h l ne. others u v (omega (arith, h)) (omega (arith, l)) ne)

pub loop-x-init : goal.loop-x-init
loop-x-init c = ReadsRows-none c.args.len c.in-Ok.size c.args.left c.in_ok-colouring.colouring
    (IsColouring-filled c.in_ok-colouring.colouring c.in-Ok.size 0 c.in-Ok.ensures.some c.in_ok-colouring.ensures.points c.in_ok-colouring.ensures.filled) c.requires.rows c.in_ok-colouring.ensures.points

pub read_row-requires-clause-colouring : goal.read_row-requires-clause-colouring
read_row-requires-clause-colouring c = c.loop-x.invariant.colouring
