use Rattle.std.proofs.Common.{◌∙◌}
use Rattle.std.proofs.lemmas.Result.{err_from_is_err_and}
use Rattle.trace_text.proofs.TraceRead.{version_read, points_read, no_points, no_stage, stage_read}
use Rattle.trace_text.proofs.reader.read_head.Goals as goal

pub returns-in_err-size-clause-fault : goal.returns-in_err-size-clause-fault
returns-in_err-size-clause-fault c =
    let p = err_from_is_err_and c.from_residual-in_err-size.result c.from_residual-in_err-size.ensures.1 in
    let v = c.in_ok-version.ensures in
    rw (p.1, p.2, c.in_err-size.ensures.fault)
    (version_read c.in_ok-version.version c.args.cursor.now c.version.new.self v.taken v.number v.known
    ∙ no_points c.in_ok-version.version c.version.new.self.line c.version.new.self.lines c.in_err-size.ensures.other)

pub returns-in_err-fixed-clause-fault : goal.returns-in_err-fixed-clause-fault
returns-in_err-fixed-clause-fault c =
    let p = err_from_is_err_and c.from_residual-in_err-fixed.result c.from_residual-in_err-fixed.ensures.1 in
    let v = c.in_ok-version.ensures in
    let s = c.in_ok-size.ensures in
    rw (p.1, p.2, c.in_err-fixed.ensures.fault)
    (version_read c.in_ok-version.version c.args.cursor.now c.version.new.self v.taken v.number v.known
    ∙ points_read c.in_ok-version.version c.in_ok-size.size c.version.new.self c.points.new.self s.taken s.number s.some s.few
    ∙ no_stage c.in_ok-version.version c.points.new.self.line c.in_ok-size.size c.points.new.self.lines c.in_err-fixed.ensures.other)

pub returns-clause-clean : goal.returns-clause-clean
returns-clause-clean c =
    let v = c.in_ok-version.ensures in
    let s = c.in_ok-size.ensures in
    version_read c.in_ok-version.version c.args.cursor.now c.version.new.self v.taken v.number v.known
    ∙ points_read c.in_ok-version.version c.in_ok-size.size c.version.new.self c.points.new.self s.taken s.number s.some s.few
    ∙ stage_read c.in_ok-version.version c.in_ok-size.size c.points.new.self c.fixed.new.self c.in_ok-fixed.ensures.taken c.in_ok-fixed.ensures.number
