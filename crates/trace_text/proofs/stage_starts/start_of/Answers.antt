use Rattle.std.proofs.Common.{◌≡◌, IfOk, sym, ap, subst}
use Rattle.std.specs.Prelude.{Option, option_copied}
use Rattle.std.proofs.lemmas.Result.{IfOk-weaker}
use Rattle.pair_colours.specs.Colouring.{PairColouring}
use Rattle.pair_colours.specs.Naming.{named_of, IsNamedMeet}
use Rattle.pair_colours.proofs.Meets.{IsNamedMeet-unique}
use Rattle.trace_text.specs.Partition.{IsPartition, meet_of}
use Rattle.trace_text.specs.Chains.{stage_start}
use Rattle.trace_text.proofs.Meeting.{IsNamedMeet-meet_of}
use Rattle.trace_text.proofs.Partitions.{IsPartition-named_of}
use Rattle.trace_text.proofs.stage_starts.start_of.Goals as goal

pub returns-in-Some-clause-start : goal.returns-in-Some-clause-start
returns-in-Some-clause-start c =
    let C = c.args.colours.now in
    let P : PairColouring = c.in-Some.last.now in
    subst (λ (o : Option PairColouring). IfOk c.meet.result (λ start. start ≡ stage_start o C)) (sym (ap option_copied c.in-Some.is))
    (IfOk-weaker c.meet.result (λ M. IsNamedMeet C P M) (λ M. M ≡ meet_of C P)
    (λ M m. IsNamedMeet-unique C P M (meet_of C P) m (IsNamedMeet-meet_of C P c.size-points.ensures.within.colouring (rw c.in-Some.is at c.requires.sizes)))
    c.meet.ensures)

pub returns-in-Some-clause-partition : goal.returns-in-Some-clause-partition
returns-in-Some-clause-partition c =
    IfOk-weaker c.meet.result (λ M. IsNamedMeet c.args.colours.now c.in-Some.last.now M) IsPartition
    (λ M m. subst IsPartition m.named (IsPartition-named_of M m.colouring)) c.meet.ensures

pub returns-in-None-clause-partition : goal.returns-in-None-clause-partition
returns-in-None-clause-partition c =
    let C = c.args.colours.now in
    IfOk-weaker c.named.result (λ N. N ≡ named_of C) IsPartition (λ N e. subst IsPartition (sym e) (IsPartition-named_of C c.size-points.ensures.within.colouring)) c.named.ensures
