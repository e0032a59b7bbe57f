use Rattle.equitable.proofs.PartitionLoops.{value_more, key_or_zero}
use Rattle.equitable.proofs.partition.keys_of.Goals as goal

pub loop-x-preserved : goal.loop-x-preserved
loop-x-preserved c =
    value_more (key_or_zero c.args.arcs.now c.args.cells.now c.args.step) c.loop-x.x c.key_at.result c.loop-x.keys.items c.push.new.self.items
    c.loop-x.invariant c.key_at.ensures c.in_ok-push.ensures.items
