use Rattle.std.proofs.Common.{sym, subst, ap, ◌∙◌}
use Rattle.std.proofs.lemmas.Result.{err_from_is_err_and}
use Rattle.text_lines.specs.LineCursor.{Cursor}
use Rattle.equitable.specs.TextFault.{at_head, fault_from}
use Rattle.equitable.specs.Reading.{IsFaultOf}
use Rattle.equitable.proofs.CellTexts.{claim_read}
use Rattle.equitable.proofs.reader.read_cells.Goals as goal

pub returns-in_err-arcs-clause-fault : goal.returns-in_err-arcs-clause-fault
returns-in_err-arcs-clause-fault c =
    let p = err_from_is_err_and c.from_residual-in_err-arcs.result c.from_residual-in_err-arcs.ensures.1 in
    let start = ap (λ (cursor : Cursor). fault_from cursor.line at_head cursor.lines) (sym c.new-cursor.ensures) in
    rw (p.1, p.2) (subst (IsFaultOf c.in_err-arcs.field-0.0) (sym (start ∙ c.in_ok-size.ensures.clean)) c.in_err-arcs.ensures.fault)

pub returns-in_err-steps-clause-fault : goal.returns-in_err-steps-clause-fault
returns-in_err-steps-clause-fault c =
    let p = err_from_is_err_and c.from_residual-in_err-steps.result c.from_residual-in_err-steps.ensures.1 in
    let start = ap (λ (cursor : Cursor). fault_from cursor.line at_head cursor.lines) (sym c.new-cursor.ensures) in
    rw (p.1, p.2) (subst (IsFaultOf c.in_err-steps.field-0.0) (sym (start ∙ c.in_ok-size.ensures.clean ∙ c.in_ok-arcs.ensures.clean))
    (c.in_err-steps.ensures.fault c.in_ok-size.size))

pub returns-in_err-cells-clause-fault : goal.returns-in_err-cells-clause-fault
returns-in_err-cells-clause-fault c =
    let p = err_from_is_err_and c.from_residual-in_err-cells.result c.from_residual-in_err-cells.ensures.1 in
    let start = ap (λ (cursor : Cursor). fault_from cursor.line at_head cursor.lines) (sym c.new-cursor.ensures) in
    rw (p.1, p.2) (subst (IsFaultOf c.in_err-cells.field-0.0)
    (sym (start ∙ c.in_ok-size.ensures.clean ∙ c.in_ok-arcs.ensures.clean ∙ c.in_ok-steps.ensures.clean c.in_ok-size.size)) c.in_err-cells.ensures.fault)

pub returns-in_err-read_end-clause-fault : goal.returns-in_err-read_end-clause-fault
returns-in_err-read_end-clause-fault c =
    let p = err_from_is_err_and c.from_residual-in_err-read_end.result c.from_residual-in_err-read_end.ensures.1 in
    let start = ap (λ (cursor : Cursor). fault_from cursor.line at_head cursor.lines) (sym c.new-cursor.ensures) in
    rw (p.1, p.2)
    (subst (IsFaultOf c.in_err-read_end.field-0.0)
    (sym (start ∙ c.in_ok-size.ensures.clean ∙ c.in_ok-arcs.ensures.clean ∙ c.in_ok-steps.ensures.clean c.in_ok-size.size
    ∙ c.in_ok-cells.ensures.clean)) c.in_err-read_end.ensures.fault)

pub returns-clause-clean : goal.returns-clause-clean
returns-clause-clean c =
    let start = ap (λ (cursor : Cursor). fault_from cursor.line at_head cursor.lines) (sym c.new-cursor.ensures) in
    start ∙ c.in_ok-size.ensures.clean ∙ c.in_ok-arcs.ensures.clean ∙ c.in_ok-steps.ensures.clean c.in_ok-size.size ∙ c.in_ok-cells.ensures.clean
    ∙ c.in_ok-read_end.ensures.clean

pub returns-clause-claim : goal.returns-clause-claim
returns-clause-claim c =
    let arcs = c.in_ok-arcs.ensures in
    record {
      lines = claim_read _ c.read_head.new.cursor.lines c.read_arcs.new.cursor.lines c.read_steps.new.cursor.lines c.read_last_cells.new.cursor.lines
          (record { arcs = c.in_ok-arcs.arcs; steps = c.in_ok-steps.steps; cells = c.in_ok-cells.cells }) c.in_ok-size.size
          (ap (λ (cursor : Cursor). cursor.lines) (sym c.new-cursor.ensures)
          ∙ c.in_ok-size.ensures.lines) arcs.rows c.in_ok-steps.ensures.lines c.in_ok-cells.ensures.line c.in_ok-read_end.ensures.lines
          arcs.points arcs.bits c.in_ok-steps.ensures.small c.in_ok-cells.ensures.count c.in_ok-cells.ensures.small;
    }
