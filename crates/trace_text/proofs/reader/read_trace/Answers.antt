use Rattle.std.proofs.Common.{sym, subst, ap, ◌∙◌}
use Rattle.std.proofs.lemmas.Result.{err_from_is_err_and}
use Rattle.trace_text.specs.TraceFault.{next_closure_row, at_head, fault_from}
use Rattle.trace_text.specs.Reading.{IsFaultOf}
use Rattle.trace_text.proofs.RowPlaces.{closure_rows, matrix_fault}
use Rattle.trace_text.proofs.TraceRead.{closure_read}
use Rattle.trace_text.proofs.reader.read_trace.Goals as goal
use Rattle.text_lines.specs.LineCursor.{Cursor}

pub returns-in_err-closure-clause-fault : goal.returns-in_err-closure-clause-fault
returns-in_err-closure-clause-fault c =
    let p = err_from_is_err_and c.from_residual-in_err-closure.result c.from_residual-in_err-closure.ensures.1 in
    let n = c.in_ok-version.size in
    let start = ap (λ (cursor : Cursor). fault_from cursor.line at_head cursor.lines) (sym c.new-cursor.ensures) in
    rw (p.1, p.2)
    (subst (IsFaultOf c.in_err-closure.field-0.0) (sym (start ∙ c.in_ok-version.ensures.clean ∙ c.in_ok-chain.ensures.clean))
    (matrix_fault n c.read_chain.new.cursor.line c.read_chain.new.cursor.lines (next_closure_row n) (closure_rows n) c.in_err-closure.field-0.0 c.in_err-closure.ensures.fault))

pub returns-in_err-read_end-clause-fault : goal.returns-in_err-read_end-clause-fault
returns-in_err-read_end-clause-fault c =
    let p = err_from_is_err_and c.from_residual-in_err-read_end.result c.from_residual-in_err-read_end.ensures.1 in
    let m = c.in_ok-closure.ensures in
    let start = ap (λ (cursor : Cursor). fault_from cursor.line at_head cursor.lines) (sym c.new-cursor.ensures) in
    let closure = closure_read c.in_ok-version.size c.read_chain.new.cursor c.read_matrix.new.cursor c.in_ok-closure.closure m.clean m.rows m.points m.number in
    rw (p.1, p.2)
    (subst (IsFaultOf c.in_err-read_end.field-0.0) (sym (start ∙ c.in_ok-version.ensures.clean ∙ c.in_ok-chain.ensures.clean ∙ closure)) c.in_err-read_end.ensures.fault)

pub returns-clause-clean : goal.returns-clause-clean
returns-clause-clean c =
    let m = c.in_ok-closure.ensures in
    let start = ap (λ (cursor : Cursor). fault_from cursor.line at_head cursor.lines) (sym c.new-cursor.ensures) in
    let closure = closure_read c.in_ok-version.size c.read_chain.new.cursor c.read_matrix.new.cursor c.in_ok-closure.closure m.clean m.rows m.points m.number in
    start ∙ c.in_ok-version.ensures.clean ∙ c.in_ok-chain.ensures.clean ∙ closure ∙ c.in_ok-read_end.ensures.clean
