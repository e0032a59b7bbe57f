-- Laws over the definitions alone.
use Rattle.std.specs.Prelude.{◌≡◌, ◌↔◌, ◌⊎◌, ℕ, ◌+◌, ◌≤◌, List, [], ◌∷◌, ◌++◌, length, map, All, None, Some, MatchOption}
use Rattle.std.specs.List.{AllByRecursion}
use Rattle.pair_colours.specs.Colouring.{PairColouring, IsColouring, IsRawColouring, Refines, IsSamePartition}
use Rattle.pair_colours.specs.Closure.{Coherent, IsClosureOf}
use Rattle.pair_colours.specs.Naming.{rank_of, IsNamedMeet}
use Rattle.trace_text.specs.declared.check_words.CheckWord.{CheckWord}
use Rattle.trace_text.specs.declared.step_list.Step.{Step}
use Rattle.trace_text.specs.declared.step_list.Step.TheVariants.{Round}
use Rattle.trace_text.specs.declared.stage_list.Stage.{Stage}
use Rattle.trace_text.specs.declared.stage_list.Claim.{Claim}
use Rattle.trace_text.specs.Partition.{IsPartition, meet_of}
use Rattle.trace_text.specs.Split.{later_keys, parted_by, key_in_class, key_of, HasParts, IsSplit, Lead}
use Rattle.trace_text.specs.Chains.{StageEnd, chain_end}
use Rattle.trace_text.specs.Parts.{keys_in, class_parted_by}
use Rattle.trace_text.specs.Acceptance.{Accepts}
use Rattle.trace_text.specs.Versions.{HasStep, IsVersioned}
use Rattle.trace_text.specs.RoundChains.{IsRoundChain, AreFollowing}
use Rattle.trace_text.specs.BadLines.{IsFirstBadLine}
use Rattle.trace_text.specs.declared.limits.TheConstants.{MOST_TRACE}
use Rattle.trace_text.specs.Limits.{most_stages}
use Rattle.trace_text.specs.TraceText.{trace_text}
use Rattle.trace_text.specs.TraceFault.{trace_fault}
use Rattle.trace_text.specs.ClaimTexts.{FitsTrace, IsTraceText}

-- a split of a partition is a partition
abbrev pub SplitIsPartition : Type 0
SplitIsPartition = (P P2 : PairColouring) (s : Step) → IsPartition P → IsSplit P s P2 → IsPartition P2

-- which refines it
abbrev pub SplitRefines : Type 0
SplitRefines = (P P2 : PairColouring) (s : Step) → IsPartition P → IsSplit P s P2 → Refines P2 P

-- and has one class more for each later key
abbrev pub SplitRank : Type 0
SplitRank = (P P2 : PairColouring) (s : Step) → IsPartition P → IsSplit P s P2 → rank_of P2 ≡ rank_of P + length (later_keys P (key_of P s))

-- a key on class k alone parts that class, and no other
abbrev pub PartsOneClass : Type 0
PartsOneClass = (P : PairColouring) (k : ℕ) (key : ℕ → ℕ → ℕ) → IsColouring P → parted_by P (key_in_class P k key) ≡ class_parted_by P k key

-- and there is a later key exactly where the pairs of the class have two keys at least
abbrev pub PartsTwoKeys : Type 0
PartsTwoKeys = (P : PairColouring) (k : ℕ) (key : ℕ → ℕ → ℕ) → (1 ≤ length (later_keys P (key_in_class P k key))) ↔ (2 ≤ length (keys_in P k key))

-- a split keeps every coherent refinement below it
abbrev pub SplitKeepsCoherent : Type 0
SplitKeepsCoherent = (Q P P2 : PairColouring) (s : Step) → IsColouring Q → Coherent Q → Refines Q P → IsSplit P s P2 → Refines Q P2

-- the meet at which a stage starts is the named meet
abbrev pub MeetIsNamedMeet : Type 0
MeetIsNamedMeet = (A P : PairColouring) → IsColouring A → A.size ≡ P.size → IsNamedMeet A P (meet_of A P)

-- an accepted claim is the closure of the colours of its last stage
abbrev pub AcceptedIsClosure : Type 0
AcceptedIsClosure = (claim : Claim) (front : List Stage) (last : Stage) → All (λ stage. IsColouring stage.colours) claim.chain
    → claim.chain ≡ front ++ last ∷ [] → Accepts claim → IsClosureOf claim.closure last.colours

-- where E has the classes of the closure K of C, and C2 refines C, the closure of C2 is that of its named meet M with E
abbrev pub ClosureOfMeet : Type 0
ClosureOfMeet = (C C2 K E M K2 : PairColouring) → Refines C2 C → IsClosureOf K C → IsSamePartition E K → IsNamedMeet C2 E M
    → (IsClosureOf K2 C2) ↔ (IsClosureOf K2 M)

-- from every partition some steps on one class each lead by splits to a coherent partition
abbrev pub StepsExist : Type 0
StepsExist = (P : PairColouring) → IsPartition P → (steps : List Step) × (P2 : PairColouring) × IsPartition P2 × Coherent P2 × Lead steps P P2 × AllByRecursion (HasStep 1) steps

-- a round is idle exactly on a coherent partition
abbrev pub RoundIsIdleOnCoherent : Type 0
RoundIsIdleOnCoherent = (P : PairColouring) → IsPartition P → (¬ HasParts P Round) ↔ Coherent P

-- so a chain of rounds ends at a coherent partition
abbrev pub RoundChainEndsCoherent : Type 0
RoundChainEndsCoherent = (chain rounds : List Stage) (last : StageEnd) → AreFollowing None chain → All (λ stage. IsColouring stage.colours) chain
    → IsRoundChain chain rounds → chain_end rounds ≡ Some last → Coherent last.partition

-- a chain whose colours follow one another has a chain of rounds
abbrev pub RoundChainExists : Type 0
RoundChainExists = (chain : List Stage) → AreFollowing None chain → All (λ stage. IsColouring stage.colours) chain → (rounds : List Stage) × IsRoundChain chain rounds

-- and one alone
abbrev pub RoundChainIsUnique : Type 0
RoundChainIsUnique = (chain rounds other : List Stage) → IsRoundChain chain rounds → IsRoundChain chain other → rounds ≡ other

-- which depends on the colours alone
abbrev pub RoundChainIsOfColours : Type 0
RoundChainIsOfColours = (chain other rounds : List Stage) → map (λ stage. stage.colours) chain ≡ map (λ stage. stage.colours) other
    → IsRoundChain chain rounds → IsRoundChain other rounds

-- the chain of rounds of an accepted claim makes an accepted claim of version 2, with the same closure
abbrev pub RoundClaimIsAccepted : Type 0
RoundClaimIsAccepted = (claim : Claim) (rounds : List Stage) → All (λ stage. IsColouring stage.colours) claim.chain → Accepts claim → IsRoundChain claim.chain rounds
    → Accepts (record { version = 2; chain = rounds; closure = claim.closure }) × IsVersioned (record { version = 2; chain = rounds; closure = claim.closure })

-- a claim with a stage is accepted, or has a first bad line
abbrev pub VerdictExists : Type 0
VerdictExists = (claim : Claim) → 1 ≤ length claim.chain → Accepts claim ⊎ ((line : ℕ) × (word : CheckWord) × IsFirstBadLine claim line word)

-- and not both
abbrev pub AcceptedHasNone : Type 0
AcceptedHasNone = (claim : Claim) (line : ℕ) (word : CheckWord) → Accepts claim → ¬ IsFirstBadLine claim line word

-- and only one such line, with one word
abbrev pub FirstBadLineIsUnique : Type 0
FirstBadLineIsUnique = (claim : Claim) (line line2 : ℕ) (word word2 : CheckWord)
    → IsFirstBadLine claim line word → IsFirstBadLine claim line2 word2 → (line ≡ line2) × (word ≡ word2)

-- where a text has no fault some claim is read, and where it has one there is none
abbrev pub TraceReadsOrFails : Type 0
TraceReadsOrFails = (text : List ℕ) → MatchOption (trace_fault text)
    ((claim : Claim) × IsTraceText text claim)
    (λ _. (claim : Claim) → ¬ IsTraceText text claim)

-- a text that is read has no fault
abbrev pub ReadingHasNoFault : Type 0
ReadingHasNoFault = (text : List ℕ) (claim : Claim) → IsTraceText text claim → trace_fault text ≡ None

-- a text is read as one claim at most
abbrev pub ReadingIsUnique : Type 0
ReadingIsUnique = (text : List ℕ) (claim other : Claim) → IsTraceText text claim → IsTraceText text other → claim ≡ other

-- the text of a claim within the limits is read as that claim
abbrev pub TextIsReadBack : Type 0
TextIsReadBack = (claim : Claim) → FitsTrace claim → IsTraceText (trace_text claim) claim

-- two claims with one text are equal
abbrev pub TextIsOfOneClaim : Type 0
TextIsOfOneClaim = (claim other : Claim) → FitsTrace claim → FitsTrace other → trace_text claim ≡ trace_text other → claim ≡ other

-- an accepted claim of raw colourings is within the limits of a claim that is written
abbrev pub AcceptedFitsTrace : Type 0
AcceptedFitsTrace = (claim : Claim) → IsVersioned claim → Accepts claim → All (λ stage. IsRawColouring stage.colours) claim.chain → FitsTrace claim

-- and its text within that of a trace, where it does not have too many stages
abbrev pub AcceptedTextFits : Type 0
AcceptedTextFits = (claim : Claim) → IsVersioned claim → Accepts claim → length claim.chain ≤ most_stages → All (λ stage. IsRawColouring stage.colours) claim.chain
    → length (trace_text claim) ≤ MOST_TRACE
