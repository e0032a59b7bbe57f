use Rattle.std.proofs.Common.{Option, IfSome, IfNone, sym, subst, arith}
use Rattle.pair_colours.specs.Colouring.{PairColouring}
use Rattle.pair_colours.specs.Closure.{Coherent}
use Rattle.trace_text.specs.declared.step_list.Step.{Step}
use Rattle.trace_text.specs.Partition.{IsPartition}
use Rattle.trace_text.specs.Split.{IsAllowed}
use Rattle.trace_text.specs.Versions.{HasStep}
use Rattle.split_cells.specs.Pairs.{partition_of}
use Rattle.split_cells.specs.Faults.{SplitsTwo}
use Rattle.split_cells.specs.Kept.{shown_of}
use Rattle.split_cells.proofs.OneClassSteps.{one_class_shown, SplitsTwo-one_class}
use Rattle.split_cells.proofs.Labelled.{few_classes, Coherent-shown, IsAllowed-shown, IsPartition-shown}
use Rattle.split_cells.proofs.cells.Cells.first_fault.Goals as goal

pub returns-in_err-step-clause-within : goal.returns-in_err-step-clause-within
returns-in_err-step-clause-within c = subst (λ (P : PairColouring). IsPartition P) c.self.view_is (IsPartition-shown c.self.invariant.shown)

pub shown_step-requires : goal.shown_step-requires
shown_step-requires c =
    let pairs = c.self.inside.pairs in
    let h = c.self.invariant.shown in
    let f : SplitsTwo (partition_of pairs) pairs.parting.rank c.in-Some.step = subst (λ (o : Option Step). IfSome o (λ step. SplitsTwo (partition_of pairs) pairs.parting.rank step)) c.in-Some.is c.in_ok-step.ensures.some in
    λ k d l. omega (arith, f.names k d l, few_classes h, h.numbers.inverse.outer_len)

pub returns-in-Some-clause-fault : goal.returns-in-Some-clause-fault
returns-in-Some-clause-fault c =
    let pairs = c.self.inside.pairs in
    let h = c.self.invariant.shown in
    let f : SplitsTwo (partition_of pairs) pairs.parting.rank c.in-Some.step = subst (λ (o : Option Step). IfSome o (λ step. SplitsTwo (partition_of pairs) pairs.parting.rank step)) c.in-Some.is c.in_ok-step.ensures.some in
    subst (λ (P : PairColouring). IsAllowed P c.shown_step.result) c.self.view_is
    (subst (λ (s : Step). IsAllowed (shown_of pairs c.self.inside.labels) s) (sym c.shown_step.ensures) (IsAllowed-shown h c.in-Some.step f))

pub returns-in-Some-clause-one_class : goal.returns-in-Some-clause-one_class
returns-in-Some-clause-one_class c =
    let pairs = c.self.inside.pairs in
    let rank = pairs.parting.rank in
    let f : SplitsTwo (partition_of pairs) rank c.in-Some.step = subst (λ (o : Option Step). IfSome o (λ step. SplitsTwo (partition_of pairs) rank step)) c.in-Some.is c.in_ok-step.ensures.some in
    subst (HasStep 1) (sym c.shown_step.ensures) (one_class_shown c.self.inside.labels.outer.items c.in-Some.step (SplitsTwo-one_class (partition_of pairs) rank c.in-Some.step f))

pub returns-in-Some-clause-within : goal.returns-in-Some-clause-within
returns-in-Some-clause-within c = subst (λ (P : PairColouring). IsPartition P) c.self.view_is (IsPartition-shown c.self.invariant.shown)

pub returns-in-None-clause-coherent : goal.returns-in-None-clause-coherent
returns-in-None-clause-coherent c =
    let pairs = c.self.inside.pairs in
    let coherent : Coherent (partition_of pairs) = subst (λ (o : Option Step). IfNone o (Coherent (partition_of pairs))) c.in-None.is c.in_ok-step.ensures.none in
    subst (λ (P : PairColouring). Coherent P) c.self.view_is (Coherent-shown c.self.invariant.shown coherent)

pub returns-in-None-clause-within : goal.returns-in-None-clause-within
returns-in-None-clause-within c = subst (λ (P : PairColouring). IsPartition P) c.self.view_is (IsPartition-shown c.self.invariant.shown)
