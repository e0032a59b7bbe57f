use Rattle.std.proofs.Common.{arith}
use Rattle.split_cells.proofs.KeyLemmas.{some_member, IsLeastTo-more, IsLeastKey-from}
use Rattle.split_cells.proofs.splitting.least_key.Goals as goal

pub bounds-members-0 : goal.bounds-members-0
bounds-members-0 c = some_member c.members-members.ensures.members c.args.tally.now.counts c.requires.member

pub loop-p-preserved : goal.loop-p-preserved
loop-p-preserved c =
    IsLeastTo-more c.members-members.result.now c.args.tally.now.counts c.loop-p.p-index c.loop-p.least c.get-key.result c.min-least.result c.loop-p-test.true c.get-key.ensures c.min-least.ensures c.loop-p.invariant

pub returns : goal.returns
returns c = IsLeastKey-from c.members-members.ensures.members c.args.tally.now.counts c.loop-p.p-index c.loop-p.least (omega (arith, c.loop-p-test.false)) c.loop-p.invariant
