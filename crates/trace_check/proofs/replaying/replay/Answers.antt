use Rattle.std.proofs.Common.{Option, Some, None, ap, subst}
use Rattle.std.specs.Prelude.{IfSome, IfNone}
use Rattle.trace_text.specs.Chains.{StageEnd, IsStageOf}
use Rattle.trace_text.proofs.Stages.{end_between}
use Rattle.trace_text.proofs.StageLoops.{not_following, stage_from_start, stage_ends, stage_fails}
use Rattle.trace_check.specs.Ends.{before_of}
use Rattle.trace_check.proofs.replaying.replay.Goals as goal
use Rattle.trace_text.specs.Ends.{IsEnd}

pub returns-in_default-clause-refused : goal.returns-in_default-clause-refused
returns-in_default-clause-refused c =
    let none = rw c.in_default.is at c.in_ok-cells.ensures.none in
    not_following c.args.line (before_of c.args.last.now) c.args.stage.now none

where_none : {A P Q : Type 0} (o : Option A) → (P → Q) → IfNone o P → IfNone o Q
where_none None f h = f h
where_none (Some x) f h = tt

where_some : {A : Type 0} (o : Option A) (P Q : A → Type 0) → ((x : A) → P x → Q x) → IfSome o P → IfSome o Q
where_some None P Q f h = tt
where_some (Some x) P Q f h = f x h

pub returns-clause-ended : goal.returns-clause-ended
returns-clause-ended c =
    let B = before_of c.args.last.now in
    let stage = c.args.stage.now in
    let start = rw c.in-Some.is at c.in_ok-cells.ensures.start in
    let follows = rw c.in-Some.is at c.in_ok-cells.ensures.follows in
    where_none c.in_ok-bad.bad (λ led. ap Some (stage_ends B stage c.follow.new.cells (stage_from_start B stage c.in-Some.cells c.follow.new.cells start follows led))) c.in_ok-bad.ensures.led

pub returns-clause-stage : goal.returns-clause-stage
returns-clause-stage c =
    let B = before_of c.args.last.now in
    let stage = c.args.stage.now in
    let start = rw c.in-Some.is at c.in_ok-cells.ensures.start in
    let follows = rw c.in-Some.is at c.in_ok-cells.ensures.follows in
    where_none c.in_ok-bad.bad (λ led.
    let is = stage_from_start B stage c.in-Some.cells c.follow.new.cells start follows led in
    subst (λ (e : StageEnd). IsStageOf B stage e.partition) (stage_ends B stage c.follow.new.cells is) is) c.in_ok-bad.ensures.led

pub returns-clause-between : goal.returns-clause-between
returns-clause-between c =
    let B = before_of c.args.last.now in
    let stage = c.args.stage.now in
    let start = rw c.in-Some.is at c.in_ok-cells.ensures.start in
    let follows = rw c.in-Some.is at c.in_ok-cells.ensures.follows in
    where_none c.in_ok-bad.bad (λ led.
    let is = stage_from_start B stage c.in-Some.cells c.follow.new.cells start follows led in
    subst (λ (e : StageEnd). IsEnd (Some e)) (stage_ends B stage c.follow.new.cells is) (end_between B stage c.follow.new.cells c.requires.before c.size.ensures.within.colouring is)) c.in_ok-bad.ensures.led

pub returns-clause-refused : goal.returns-clause-refused
returns-clause-refused c =
    let B = before_of c.args.last.now in
    let stage = c.args.stage.now in
    let start = rw c.in-Some.is at c.in_ok-cells.ensures.start in
    let follows = rw c.in-Some.is at c.in_ok-cells.ensures.follows in
    where_some c.in_ok-bad.bad _ _ (λ bad refused. stage_fails c.args.line B stage c.in-Some.cells bad.line bad.what start follows refused) (rw c.size.ensures.points at c.in_ok-bad.ensures.refused)
