use Rattle.std.proofs.Common.{IfSome, Option, subst}
use Rattle.pair_colours.specs.Colouring.{PairColouring}
use Rattle.trace_text.specs.declared.step_list.Step.{Step}
use Rattle.trace_text.specs.Partition.{IsPartition}
use Rattle.trace_text.specs.Split.{IsAllowed}
use Rattle.wl_refine.proofs.Leading.{leads_on_after, fewer_left}
use Rattle.wl_refine.proofs.finishing.finish_by.Goals as goal

pub loop-step-init : goal.loop-step-init
loop-step-init c = leads_on_after c.args.way.now c.settle_all.new.way c.sweep.new.way c.in_ok-settle_all.ensures c.in_ok-sweep.ensures

pub loop-step-smaller : goal.loop-step-smaller
loop-step-smaller c =
    let here = c.cells in
    let P = c.loop-step.way.cells in
    let found : IsAllowed here.result.now c.in-Some.step = subst (λ (o : Option Step). IfSome o (λ step. IsAllowed here.result.now step)) c.in-Some.is c.in_ok-step.ensures.fault in
    let allowed = subst (λ (A : PairColouring). IsAllowed A c.in-Some.step) here.ensures found in
    let more = c.in_ok-sweep-in-Some.ensures in
    fewer_left P c.make.new.self.cells c.sweep-in-Some.new.way.cells c.in-Some.step more.more (subst IsPartition here.ensures c.first_fault.ensures.within) allowed c.in_ok-make-in-Some.ensures.parts more.leads

pub loop-step-preserved : goal.loop-step-preserved
loop-step-preserved c =
    leads_on_after c.args.way.now c.loop-step.way c.sweep-in-Some.new.way c.loop-step.invariant
    (leads_on_after c.loop-step.way c.make.new.self c.sweep-in-Some.new.way c.in_ok-make-in-Some.ensures.on c.in_ok-sweep-in-Some.ensures)
