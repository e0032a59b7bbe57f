-- What steps up to a coherent partition reach.
use Rattle.std.proofs.Common.{◌≡◌, Option, None, Some, sym, subst, ap, arith}
use Rattle.std.specs.Prelude.{IfSome}
use Rattle.std.specs.List.{AllByRecursion}
use Rattle.pair_colours.specs.Colouring.{PairColouring, IsColouring}
use Rattle.pair_colours.specs.Closure.{Coherent, IsClosureOf}
use Rattle.pair_colours.specs.Naming.{named_of, rank_of}
use Rattle.pair_colours.proofs.Closures.{IsClosureOf-named_of, refines-named_of, named_of-refines}
use Rattle.pair_colours.proofs.Places.{Refines-trans}
use Rattle.trace_text.specs.Partition.{IsPartition, meet_of}
use Rattle.trace_text.specs.Chains.{stage_start}
use Rattle.trace_text.specs.Split.{Lead}
use Rattle.trace_text.specs.Versions.{HasStep}
use Rattle.trace_text.proofs.Leads.{lead_below}
use Rattle.trace_text.proofs.Meeting.{IsNamedMeet-meet_of}
use Rattle.trace_text.proofs.Partitions.{IsPartition-named_of, IsPartition-meet_of, rank_of-named_of}
use Rattle.wl_refine.specs.declared.closing.Closed.{Closed}
use Rattle.wl_refine.specs.Closed.{IsReached, IsForced}
use Rattle.trace_text.specs.Ends.{IsBetween}
use Rattle.pair_colours.proofs.Meets.{meet_below}

-- a stage starts between its colours and their closure, where the partition before parts no pairs of the closure
pub IsBetween-stage_start : (last : Option PairColouring) (C : PairColouring) → IsColouring C → IfSome last (λ P. C.size ≡ P.size) → IfSome last (IsForced C)
    → IsBetween C (stage_start last C)
IsBetween-stage_start None C c sizes forced = record {
  colours = c;
  partition = IsPartition-named_of C c;
  refines = named_of-refines C c;
  keeps = λ Q q h r. Refines-trans Q C (named_of C) r (refines-named_of C c);
}
IsBetween-stage_start (Some last) C c sizes forced =
    let m = IsNamedMeet-meet_of C last c sizes in
    record {
      colours = c;
      partition = IsPartition-meet_of C last c;
      refines = m.first;
      keeps = λ Q q h r. meet_below Q C last (meet_of C last) m r (forced Q q h r);
    }

-- what is reached from between is the closure
pub IsClosureOf-reached : (C start : PairColouring) (closed : Closed) → IsBetween C start → IsReached start closed → IsClosureOf closed.matrix C
IsClosureOf-reached C start closed b r =
    let below = lead_below closed.steps start closed.last b.partition r.leads in
    subst (λ K. IsClosureOf K C) (sym r.names) (IsClosureOf-named_of closed.last C (record {
      colouring = below.partition.colouring;
      coherent = r.coherent;
      refines = Refines-trans closed.last start C below.refines b.refines;
      coarsest = λ Q q h s. below.keeps Q q h (b.keeps Q q h s);
    }))

pub IsReached-from : (start : PairColouring) (closed : Closed) → IsPartition start → Lead closed.steps start closed.last → AllByRecursion (HasStep 1) closed.steps
    → Coherent closed.last → closed.matrix ≡ named_of closed.last → IsReached start closed
IsReached-from start closed h l o c n =
    let below = lead_below closed.steps start closed.last h l in
    record {
      leads = l;
      one_class = o;
      coherent = c;
      names = n;
      few = omega (arith, below.rank, rank_of-named_of closed.last below.partition.colouring, ap rank_of n);
    }
