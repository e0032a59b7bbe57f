use Rattle.std.proofs.Common.{sym, subst}
use Rattle.std.proofs.lemmas.Result.{err_from_is_err_and}
use Rattle.scheme_io.specs.Count.{Rose}
use Rattle.cohere_inputs.specs.declared.faults.Unread.{Unread}
use Rattle.cohere_inputs.specs.Needs.{cell_trace_need}
use Rattle.cohere_inputs.specs.Unread.{IsCause}
use Rattle.cohere_inputs.proofs.CellFiles.{cell_trace_file, cell_lines_fit, cell_cause}
use Rattle.cohere_inputs.proofs.files.cell_claim_in.Goals as goal

pub returns-clause-lines : goal.returns-clause-lines
returns-clause-lines g c =
    cell_lines_fit c.in_ok-bytes.bytes.items c.deref.result.now c.in_ok-read_cells.field-0
    c.deref.ensures.value c.in_ok-bytes.ensures.short c.in_ok-read_cells.ensures.claim

pub returns-clause-read : goal.returns-clause-read
returns-clause-read g c =
    cell_trace_file (g.S.Store.files c.args.store.now) c.args.name.now c.in_ok-bytes.bytes.items c.deref.result.now c.in_ok-read_cells.field-0
    c.deref.ensures.value c.in_ok-bytes.ensures.found c.in_ok-bytes.ensures.short c.in_ok-read_cells.ensures.claim

pub returns-in_err-read_cells-clause-cause : goal.returns-in_err-read_cells-clause-cause
returns-in_err-read_cells-clause-cause g c =
    let files = g.S.Store.files c.args.store.now in
    let rose = Rose (g.S.Store.faults c.args.store.now) (g.S.Store.faults c.load.new.store) in
    let err = err_from_is_err_and c.from_residual-in_err-read_cells.result c.from_residual-in_err-read_cells.ensures.1 in
    let cause = cell_cause files c.args.name.now c.in_ok-bytes.bytes.items c.deref.result.now c.in_err-read_cells.field-0.0 rose
    c.deref.ensures.value c.in_ok-bytes.ensures.found c.in_ok-bytes.ensures.short c.in_err-read_cells.ensures.fault in
    rw err.1 (subst (λ (why : Unread). IsCause files (cell_trace_need c.args.name.now) why rose) (sym err.2) cause)
