use Rattle.std.proofs.Common.{◌∙◌}
use Rattle.std.proofs.lemmas.Result.{err_from_is_err_and}
use Rattle.equitable.proofs.HeadRead.{no_head, head_read, no_points, points_read}
use Rattle.equitable.proofs.reader.read_head.Goals as goal

pub returns-in_err-fixed_line-clause-fault : goal.returns-in_err-fixed_line-clause-fault
returns-in_err-fixed_line-clause-fault c =
    let p = err_from_is_err_and c.from_residual.result c.from_residual.ensures.1 in
    rw (p.1, p.2, c.in_err-fixed_line.ensures.fault) (no_head c.args.cursor.now.line c.args.cursor.now.lines c.in_err-fixed_line.ensures.other)

pub returns-in_err-size-clause-fault : goal.returns-in_err-size-clause-fault
returns-in_err-size-clause-fault c =
    let p = err_from_is_err_and c.from_residual-in_err-size.result c.from_residual-in_err-size.ensures.1 in
    let h = c.in_ok-fixed_line.ensures in
    rw (p.1, p.2, c.in_err-size.ensures.fault)
    (head_read c.args.cursor.now c.fixed_line.new.cursor h.taken h.number
    ∙ no_points c.fixed_line.new.cursor.line c.fixed_line.new.cursor.lines c.in_err-size.ensures.other)

pub returns-clause-clean : goal.returns-clause-clean
returns-clause-clean c =
    let h = c.in_ok-fixed_line.ensures in
    let s = c.in_ok-size.ensures in
    head_read c.args.cursor.now c.fixed_line.new.cursor h.taken h.number
    ∙ points_read c.in_ok-size.size c.fixed_line.new.cursor c.points_line.new.cursor s.taken s.number s.some s.few
