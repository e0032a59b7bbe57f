use Rattle.std.proofs.Common.{ap, refl, subst, arith, sum_by}
use Rattle.trace_text.specs.BadLines.{line_count_of_stage}
use Rattle.trace_text.specs.Chains.{stage_end}
use Rattle.trace_text.proofs.StageLoops.{GoneThrough, gone_more, gone_bad, gone_steps, gone_some, gone_within}
use Rattle.trace_check.specs.Ends.{ended_of, before_of}
use Rattle.trace_check.proofs.Judged.{accepted_at, refused_at}
use Rattle.trace_check.proofs.checking.check_after.Goals as goal

pub returns-in-Some : goal.returns-in-Some
returns-in-Some c =
    let e = c.as_slice-stage-items.ensures.stages in
    let gone = subst (λ xs. GoneThrough xs c.loop-stage.stage-index (before_of c.loop-stage.last) c.loop-stage.line c.loop-stage.steps) e c.loop-stage.invariant in
    let refused = rw c.in-Some.is at c.in_ok-bad.ensures.refused in
    gone_bad c.args.claim.now c.loop-stage.stage-index (before_of c.loop-stage.last) c.loop-stage.line c.loop-stage.steps c.in-Some.bad.line c.in-Some.bad.what c.stage-item.result
    (rw e at c.loop-stage-test.true) (rw e at c.stage-item.is) gone refused

pub loop-stage-preserved : goal.loop-stage-preserved
loop-stage-preserved c =
    let ended = rw c.in_default.is at c.in_ok-bad.ensures.ended in
    let stage = rw c.in_default.is at c.in_ok-bad.ensures.stage in
    let between = rw c.in_default.is at c.in_ok-bad.ensures.between in
    let g = gone_more c.as_slice-stage-items.result.now c.loop-stage.stage-index (before_of c.loop-stage.last) c.loop-stage.line c.loop-stage.steps c.stage-item.result (stage_end (before_of c.loop-stage.last) c.stage-item.result)
    c.loop-stage-test.true c.stage-item.is c.loop-stage.invariant refl stage between in
    rw (ended, c.size.ensures.points, c.len.ensures, c.len-in-loop-stage.ensures) g

pub unreachable-requires : goal.unreachable-requires
unreachable-requires c =
    let e = c.as_slice-stage-items.ensures.stages in
    let gone = rw c.in_default-last.is at c.loop-stage.invariant in
    gone_some c.as_slice-stage-items.result.now c.loop-stage.stage-index c.loop-stage.line c.loop-stage.steps (rw e c.requires.has_stage) c.loop-stage-test.false gone

pub overflow_add-steps : goal.overflow_add-steps
overflow_add-steps c =
    let few = gone_steps c.as_slice-stage-items.result.now c.loop-stage.stage-index (before_of c.loop-stage.last) c.loop-stage.line c.loop-stage.steps c.stage-item.result
    c.loop-stage-test.true c.stage-item.is c.loop-stage.invariant in
    let same = ap (sum_by line_count_of_stage) c.as_slice-stage-items.ensures.stages in
    omega (arith, few, same, c.len-in-loop-stage.ensures, c.requires.lines)

pub returns-in-Some-2 : goal.returns-in-Some-2
returns-in-Some-2 c =
    let e = c.as_slice-stage-items.ensures.stages in
    let gone = subst (λ xs. GoneThrough xs c.loop-stage.stage-index (before_of c.loop-stage.last) c.loop-stage.line c.loop-stage.steps) e c.loop-stage.invariant in
    refused_at c.args.claim.now c.loop-stage.stage-index c.loop-stage.line c.loop-stage.steps (ended_of c.in-Some-last.end) c.in-Some-2.what (rw e at c.loop-stage-test.false) (rw c.in-Some-last.is at gone)
    (rw c.in-Some-2.is at c.in_ok-end_fault.ensures.some)

pub returns-in_ok-rank-in-None : goal.returns-in_ok-rank-in-None
returns-in_ok-rank-in-None c =
    let e = c.as_slice-stage-items.ensures.stages in
    let gone = subst (λ xs. GoneThrough xs c.loop-stage.stage-index (before_of c.loop-stage.last) c.loop-stage.line c.loop-stage.steps) e c.loop-stage.invariant in
    let none = rw c.in-None.is at c.in_ok-end_fault.ensures.none in
    accepted_at c.args.claim.now c.loop-stage.stage-index c.loop-stage.line c.loop-stage.steps _ _ (ended_of c.in-Some-last.end) (rw e at c.loop-stage-test.false) (rw c.in-Some-last.is at gone)
    none.0 none.1 c.size-in-None.ensures.points c.in_ok-rank-in-None.ensures

pub overflow_add-line-in-loop-stage-2 : goal.overflow_add-line-in-loop-stage-2
overflow_add-line-in-loop-stage-2 c =
    let few = gone_within c.as_slice-stage-items.result.now c.loop-stage.stage-index (before_of c.loop-stage.last) c.loop-stage.line c.loop-stage.steps c.stage-item.result
    c.loop-stage-test.true c.stage-item.is c.loop-stage.invariant in
    let same = ap (sum_by line_count_of_stage) c.as_slice-stage-items.ensures.stages in
    omega (arith, few, same, c.size.ensures.points, c.len.ensures, c.requires.lines)
