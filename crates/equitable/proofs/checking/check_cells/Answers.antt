use Rattle.std.proofs.Common.{refl}
use Rattle.equitable.proofs.Ending.{ended, accepted_at, refused_at}
use Rattle.equitable.proofs.checking.check_cells.Goals as goal

pub end_fault-requires : goal.end_fault-requires
end_fault-requires c =
    let led = rw c.in_default.is at c.in_ok-bad.ensures.led in
    let allowed = rw c.in_default.is at c.in_ok-bad.ensures.allowed in
    (ended c.args.claim.now.arcs c.in_ok-partition.partition c.follow.new.partition c.args.claim.now.steps c.size.result c.size.ensures.points
    c.in_ok-partition.ensures led allowed).points

pub returns-in-None : goal.returns-in-None
returns-in-None c =
    let led = rw c.in_default.is at c.in_ok-bad.ensures.led in
    let allowed = rw c.in_default.is at c.in_ok-bad.ensures.allowed in
    let equitable = rw c.in-None.is at c.in_ok-end_fault.ensures.equitable in
    let named = rw c.in-None.is at c.in_ok-end_fault.ensures.named in
    accepted_at c.args.claim.now c.follow.new.partition _ _ _
    (ended c.args.claim.now.arcs c.in_ok-partition.partition c.follow.new.partition c.args.claim.now.steps c.size.result c.size.ensures.points
    c.in_ok-partition.ensures led allowed)
    equitable named c.size-in-None.ensures.points c.count.ensures c.len.ensures

pub returns : goal.returns
returns c =
    let led = rw c.in_default.is at c.in_ok-bad.ensures.led in
    let allowed = rw c.in_default.is at c.in_ok-bad.ensures.allowed in
    let some = rw c.in-Some-2.is at c.in_ok-end_fault.ensures.some in
    refused_at c.args.claim.now c.follow.new.partition _ c.size-first_step.result c.len-in-Some-2.result c.in-Some-2.what
    (ended c.args.claim.now.arcs c.in_ok-partition.partition c.follow.new.partition c.args.claim.now.steps c.size.result c.size.ensures.points
    c.in_ok-partition.ensures led allowed)
    some c.size-first_step.ensures.points c.len-in-Some-2.ensures refl
