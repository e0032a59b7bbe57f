use Rattle.std.proofs.Common.{sym, subst}
use Rattle.std.proofs.lemmas.Result.{err_from_is_err_and}
use Rattle.scheme_io.specs.Count.{Rose}
use Rattle.cohere_inputs.specs.declared.faults.Unread.{Unread}
use Rattle.cohere_inputs.specs.Needs.{relation_need}
use Rattle.cohere_inputs.specs.Unread.{IsCause}
use Rattle.cohere_inputs.proofs.ReadFiles.{relation_file, relation_cause}
use Rattle.cohere_inputs.proofs.files.relation_in.Goals as goal

pub returns-clause-read : goal.returns-clause-read
returns-clause-read g c =
    relation_file (g.S.Store.files c.args.store.now) c.args.name.now c.args.line c.in_ok-bytes.bytes.items c.deref.result.now c.in_ok-read_relation.field-0
    c.deref.ensures.value c.in_ok-bytes.ensures.found c.in_ok-bytes.ensures.short c.in_ok-read_relation.ensures.read

pub returns-in_err-read_relation-clause-cause : goal.returns-in_err-read_relation-clause-cause
returns-in_err-read_relation-clause-cause g c =
    let files = g.S.Store.files c.args.store.now in
    let rose = Rose (g.S.Store.faults c.args.store.now) (g.S.Store.faults c.load.new.store) in
    let err = err_from_is_err_and c.from_residual-in_err-read_relation.result c.from_residual-in_err-read_relation.ensures.1 in
    let cause = relation_cause files c.args.name.now c.args.line c.in_ok-bytes.bytes.items c.deref.result.now c.in_err-read_relation.field-0.0 rose
    c.deref.ensures.value c.in_ok-bytes.ensures.found c.in_ok-bytes.ensures.short c.in_err-read_relation.ensures.fault in
    rw err.1 (subst (λ (why : Unread). IsCause files (relation_need c.args.name.now c.args.line) why rose) (sym err.2) cause)
