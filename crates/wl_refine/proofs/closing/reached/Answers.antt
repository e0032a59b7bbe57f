use Rattle.std.proofs.Common.{List, sym, subst}
use Rattle.pair_colours.specs.Colouring.{PairColouring}
use Rattle.pair_colours.specs.Closure.{Coherent}
use Rattle.trace_text.specs.declared.step_list.Step.{Step}
use Rattle.trace_text.specs.Partition.{IsPartition}
use Rattle.trace_text.specs.Split.{Lead}
use Rattle.wl_refine.proofs.Leading.{leads_from_start}
use Rattle.wl_refine.proofs.Reached.{IsReached-from}
use Rattle.wl_refine.proofs.closing.reached.Goals as goal

pub returns : goal.returns
returns c =
    let start = c.args.start in
    let now = c.end_of.new.way in
    let last = c.in_ok-last.last in
    let end = c.in_ok-last.ensures in
    let leads = leads_from_start start c.from-way.result now c.from-way.ensures.steps c.from-way.ensures.cells end.on in
    IsReached-from start _ (subst IsPartition c.from-way.ensures.cells c.from-way.ensures.within)
    (subst (λ (l : List Step). Lead l start last) (sym c.into_steps-steps.ensures.steps) (subst (λ (P : PairColouring). Lead now.steps start P) (sym end.last) leads))
    c.into_steps-steps.ensures.one_class
    (subst (λ (P : PairColouring). Coherent P) (sym end.last) end.coherent)
    c.in_ok-matrix.ensures
