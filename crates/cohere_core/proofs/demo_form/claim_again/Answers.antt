use Rattle.cohere_core.proofs.DemoClaims.{trace_has_no_fault, trace_is_of_claim, trace_is_short}
use Rattle.cohere_core.proofs.demo_form.claim_again.Goals as goal

pub read_trace-requires : goal.read_trace-requires
read_trace-requires c = trace_is_short c.args.bench.now c.in_ok-text.text.items c.deref.result.now c.requires c.in_ok-text.ensures c.deref.ensures.value

pub returns-in-Ok : goal.returns-in-Ok
returns-in-Ok c =
    trace_is_of_claim c.args.bench.now c.in_ok-text.text.items c.deref.result.now c.in-Ok.claim c.requires c.in_ok-text.ensures c.deref.ensures.value c.in-Ok.ensures.claim

pub unreachable-requires : goal.unreachable-requires
unreachable-requires c =
    trace_has_no_fault c.args.bench.now c.in_ok-text.text.items c.deref.result.now _ _ c.requires c.in_ok-text.ensures c.deref.ensures.value
    (rw c.in-Err-Text.field-0-is at c.in-Err-Text.ensures.fault)
