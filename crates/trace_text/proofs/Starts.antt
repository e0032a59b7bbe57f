-- Where a stage starts.
use Rattle.std.proofs.Common.{◌≡◌, Option, None, Some}
use Rattle.std.specs.Prelude.{IfSome}
use Rattle.pair_colours.specs.Colouring.{PairColouring, IsColouring}
use Rattle.pair_colours.specs.Naming.{named_of}
use Rattle.pair_colours.proofs.Closures.{named_of-named_of}
use Rattle.trace_text.specs.Partition.{IsPartition}
use Rattle.trace_text.specs.Chains.{stage_start}
use Rattle.trace_text.proofs.Meeting.{IsNamedMeet-meet_of}
use Rattle.trace_text.proofs.Partitions.{IsPartition-named_of, IsPartition-meet_of}

-- it is a partition
pub IsPartition-stage_start : (last : Option PairColouring) (C : PairColouring) → IsColouring C → IsPartition (stage_start last C)
IsPartition-stage_start None C c = IsPartition-named_of C c
IsPartition-stage_start (Some last) C c = IsPartition-meet_of C last c

-- which is named
pub named_of-stage_start : (last : Option PairColouring) (C : PairColouring) → IsColouring C → IfSome last (λ P. C.size ≡ P.size)
    → named_of (stage_start last C) ≡ stage_start last C
named_of-stage_start None C c sizes = named_of-named_of C c
named_of-stage_start (Some last) C c sizes = (IsNamedMeet-meet_of C last c sizes).named
