use Rattle.std.proofs.Common.{length, ap, arith}
use Rattle.cohere_core.proofs.DemoClaims.{claim_has_few_lines, claim_has_few_stages, claim_has_stage, claim_never_refused}
use Rattle.cohere_core.proofs.demo_form.checked_text.Goals as goal

pub overflow_cast-stages : goal.overflow_cast-stages
overflow_cast-stages c =
    let few = claim_has_few_stages c.args.bench.now c.in_ok-claim.claim c.requires c.in_ok-claim.ensures in
    omega (arith, few, ap length c.as_slice.ensures.stages)

pub check-requires-clause-has_stage : goal.check-requires-clause-has_stage
check-requires-clause-has_stage c = claim_has_stage c.args.bench.now c.in_ok-claim.claim c.requires c.in_ok-claim.ensures

pub check-requires-clause-lines : goal.check-requires-clause-lines
check-requires-clause-lines c = claim_has_few_lines c.args.bench.now c.in_ok-claim.claim c.requires c.in_ok-claim.ensures

pub unreachable-requires : goal.unreachable-requires
unreachable-requires c =
    claim_never_refused c.args.bench.now c.in_ok-claim.claim c.in-Refused.line c.in-Refused.what c.requires c.in_ok-claim.ensures (rw c.in-Refused.is at c.in_ok-verdict.ensures)
