-- The proofs of the laws, under the names by which crates above cite them.
use Rattle.trace_text.specs.Law.{SplitIsPartition, SplitRefines, SplitRank, PartsOneClass, PartsTwoKeys, SplitKeepsCoherent, MeetIsNamedMeet, AcceptedIsClosure, ClosureOfMeet, StepsExist, VerdictExists, AcceptedHasNone, FirstBadLineIsUnique, TraceReadsOrFails, ReadingHasNoFault, ReadingIsUnique, TextIsReadBack, TextIsOfOneClaim, AcceptedFitsTrace, AcceptedTextFits, RoundIsIdleOnCoherent, RoundChainEndsCoherent, RoundChainExists, RoundChainIsUnique, RoundChainIsOfColours, RoundClaimIsAccepted}
use Rattle.trace_text.proofs.Splits as splits
use Rattle.trace_text.proofs.OneClass as one_class
use Rattle.trace_text.proofs.Meeting as meeting
use Rattle.trace_text.proofs.Reaching as reaching
use Rattle.trace_text.proofs.RoundSteps as round_steps
use Rattle.trace_text.proofs.Stages as stages
use Rattle.trace_text.proofs.RoundChains as round_chains
use Rattle.trace_text.proofs.Verdicts as verdicts
use Rattle.trace_text.proofs.TraceReadings as readings
use Rattle.trace_text.proofs.AcceptedTexts as accepted
use Rattle.trace_text.proofs.Lengths as lengths

-- a split of a partition is a partition that refines it, with one class more for each later key
pub split_is_partition : SplitIsPartition
split_is_partition = splits.split_is_partition

pub split_refines : SplitRefines
split_refines = splits.split_refines

pub split_rank : SplitRank
split_rank = splits.split_rank

-- and keeps every coherent refinement below it
pub split_keeps_coherent : SplitKeepsCoherent
split_keeps_coherent = splits.split_keeps_coherent

-- a key on one class parts that class alone
pub parts_one_class : PartsOneClass
parts_one_class = one_class.parts_one_class

pub parts_two_keys : PartsTwoKeys
parts_two_keys = one_class.parts_two_keys

-- the meet of two colourings is the named meet, and has the closure of a refining colouring
pub meet_is_named_meet : MeetIsNamedMeet
meet_is_named_meet = meeting.IsNamedMeet-meet_of

pub closure_of_meet : ClosureOfMeet
closure_of_meet = meeting.closure_of_meet

-- every partition reaches a coherent one
pub steps_exist : StepsExist
steps_exist = reaching.steps_exist

-- a round is idle exactly on a coherent partition, so that a chain of rounds ends at one
pub round_is_idle_on_coherent : RoundIsIdleOnCoherent
round_is_idle_on_coherent = round_steps.round_is_idle_on_coherent

pub round_chain_ends_coherent : RoundChainEndsCoherent
round_chain_ends_coherent = round_chains.round_chain_ends_coherent

-- each chain whose colours follow one another has one chain of rounds, by its colours
pub round_chain_exists : RoundChainExists
round_chain_exists = round_chains.round_chain_exists

pub round_chain_is_unique : RoundChainIsUnique
round_chain_is_unique = round_chains.round_chain_is_unique

pub round_chain_is_of_colours : RoundChainIsOfColours
round_chain_is_of_colours = round_chains.round_chain_is_of_colours

-- and that of an accepted claim has the same closure
pub round_claim_is_accepted : RoundClaimIsAccepted
round_claim_is_accepted = round_chains.round_claim_is_accepted

-- an accepted claim is the closure of its last stage
pub accepted_is_closure : AcceptedIsClosure
accepted_is_closure = stages.accepted_is_closure

-- a claim with a stage is accepted, or has one first bad line with one word
pub verdict_exists : VerdictExists
verdict_exists = verdicts.verdict_exists

pub accepted_has_none : AcceptedHasNone
accepted_has_none = verdicts.accepted_has_none

pub first_bad_line_is_unique : FirstBadLineIsUnique
first_bad_line_is_unique = verdicts.first_bad_line_is_unique

-- each text is a trace of one claim, or has a fault
pub trace_reads_or_fails : TraceReadsOrFails
trace_reads_or_fails = readings.trace_reads_or_fails

pub reading_has_no_fault : ReadingHasNoFault
reading_has_no_fault = readings.reading_has_no_fault

pub reading_is_unique : ReadingIsUnique
reading_is_unique = readings.reading_is_unique

-- and what is written reads back
pub text_is_read_back : TextIsReadBack
text_is_read_back = readings.text_is_read_back

pub text_is_of_one_claim : TextIsOfOneClaim
text_is_of_one_claim = readings.text_is_of_one_claim

-- an accepted claim can be written as a trace
pub accepted_fits_trace : AcceptedFitsTrace
accepted_fits_trace = accepted.accepted_fits_trace

pub accepted_text_fits : AcceptedTextFits
accepted_text_fits = lengths.accepted_text_fits
