use Rattle.std.proofs.Common.{◌-◌, ◌<◌, length, sym, subst, arith}
use Rattle.equitable.specs.Acceptance.{IsReached, one_cell}
use Rattle.equitable.specs.Equitable.{cell_count}
use Rattle.equitable.proofs.Ending.{grows}
use Rattle.equitable.proofs.Following.{followed_more}
use Rattle.equitable.proofs.TextSizes.{reached_few}
use Rattle.equitable.proofs.refining.finish.Goals as goal

pub loop-step-preserved : goal.loop-step-preserved
loop-step-preserved c =
    let G = c.args.arcs.now in
    let allowed = rw c.in-Some.is at c.in_ok-step.ensures.some in
    subst (IsReached G c.split.new.self) (sym c.in_ok-push.ensures.ok)
    (followed_more G (one_cell G.size) c.loop-step.partition c.split.new.self c.loop-step.steps c.in-Some.step c.loop-step.invariant allowed
    c.in_ok-split.ensures.split)

pub loop-step-smaller : goal.loop-step-smaller
loop-step-smaller c =
    let G = c.args.arcs.now in
    let X = c.loop-step.partition in
    let Y = c.split.new.self in
    let allowed = rw c.in-Some.is at c.in_ok-step.ensures.some in
    let g = grows G X Y c.loop-step.steps c.in-Some.step c.requires.fits.colouring.has_points c.loop-step.invariant allowed c.in_ok-split.ensures.split in
    let h : length Y - cell_count Y < length X - cell_count X = omega (arith, g.more, g.points, g.few) in
    h

pub odd_step-requires : goal.odd_step-requires
odd_step-requires c = c.loop-step.invariant.points

pub split-requires-clause-points : goal.split-requires-clause-points
split-requires-clause-points c = c.loop-step.invariant.points

pub split-requires-clause-names : goal.split-requires-clause-names
split-requires-clause-names c = let allowed = rw c.in-Some.is at c.in_ok-step.ensures.some in allowed.names

pub push-requires : goal.push-requires
push-requires c =
    omega (arith, reached_few c.args.arcs.now c.loop-step.partition c.loop-step.steps c.requires.fits c.loop-step.invariant)

pub returns-clause-equitable : goal.returns-clause-equitable
returns-clause-equitable c = rw c.in_default.is at c.in_ok-step.ensures.none
