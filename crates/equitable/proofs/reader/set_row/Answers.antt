use Rattle.std.proofs.Common.{get_or, refl, arith}
use Rattle.equitable.proofs.ArcsRead.{set_start, set_more, set_all}
use Rattle.equitable.proofs.reader.set_row.Goals as goal

pub loop-y-init : goal.loop-y-init
loop-y-init c = set_start c.args.arcs.now c.args.x c.args.row.now

pub loop-y-preserved : goal.loop-y-preserved
loop-y-preserved c =
    set_more c.args.arcs.now c.loop-y.arcs c.set.new.self c.args.x c.loop-y.y
    (get_or c.args.row.now c.loop-y.y 0) c.args.row.now c.loop-y.invariant c.size-y-end.ensures.within.colouring.has_pairs c.requires.row
    (omega (arith, c.loop-y-test.true, c.size-y-end.ensures.points)) c.requires.len refl c.set.ensures.points c.set.ensures.changed

pub returns-clause-row : goal.returns-clause-row
returns-clause-row c =
    set_all c.args.arcs.now c.loop-y.arcs c.args.x c.loop-y.y c.args.row.now c.loop-y.invariant
    (omega (arith, c.loop-y-test.false, c.loop-y.auto.y-end, c.size-y-end.ensures.points)) c.requires.len
