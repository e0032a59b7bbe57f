use Rattle.std.proofs.Common.{◌+◌, arith}
use Rattle.equitable.proofs.Following.{followed_start, followed_taken, followed_all, failing_step}
use Rattle.equitable.proofs.checking.follow.Goals as goal

pub loop-i-init : goal.loop-i-init
loop-i-init c = followed_start c.args.arcs.now c.args.partition.now c.requires.points

pub returns-in-Some-clause-refused : goal.returns-in-Some-clause-refused
returns-in-Some-clause-refused c =
    let refused = rw c.in-Some.is at c.in_ok-what.ensures.refused in
    failing_step c.args.arcs.now c.args.partition.now c.loop-i.partition c.args.steps.now c.loop-i.i c.args.line c.at.result c.in-Some.what c.at.ensures
    c.loop-i.invariant (refused (c.args.line + c.loop-i.i))

pub loop-i-preserved : goal.loop-i-preserved
loop-i-preserved c =
    let made = rw c.in_default.is at c.in_ok-what.ensures.made in
    let allowed = rw c.in_default.is at c.in_ok-what.ensures.allowed in
    followed_taken c.args.arcs.now c.args.partition.now c.loop-i.partition c.make.new.partition c.args.steps.now c.loop-i.i c.at.result c.at.ensures
    c.loop-i.invariant allowed made

pub returns-clause-led : goal.returns-clause-led
returns-clause-led c =
    (followed_all c.args.arcs.now c.args.partition.now c.loop-i.partition c.args.steps.now c.loop-i.i
    (omega (arith, c.loop-i-test.false, c.len-i-end.ensures)) c.loop-i.invariant).led

pub returns-clause-allowed : goal.returns-clause-allowed
returns-clause-allowed c =
    (followed_all c.args.arcs.now c.args.partition.now c.loop-i.partition c.args.steps.now c.loop-i.i
    (omega (arith, c.loop-i-test.false, c.len-i-end.ensures)) c.loop-i.invariant).allowed
