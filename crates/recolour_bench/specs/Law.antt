-- What holds of histories and their moves.
use Rattle.std.specs.Prelude.{◌≡◌, ◌↔◌, ℕ, ◌+◌, ◌≤◌, List, length, All, IsTrue, None}
use Rattle.pair_colours.specs.Colouring.{PairColouring, IsColouring, IsRawColouring}
use Rattle.pair_colours.specs.Closure.{IsClosureOf}
use Rattle.trace_text.specs.declared.limits.TheConstants.{MOST_TRACE}
use Rattle.trace_text.specs.declared.stage_list.Stage.{Stage}
use Rattle.trace_text.specs.Acceptance as traces
use Rattle.trace_text.specs.RoundChains.{IsRoundChain, AreFollowing}
use Rattle.trace_text.specs.TraceText.{trace_text}
use Rattle.trace_text.specs.Versions.{IsVersioned}
use Rattle.pair_colours.specs.Fibres.{HasOneFibre}
use Rattle.colour_wl.specs.GrowthStrings.{IsGrowth}
use Rattle.recolour_bench.specs.declared.edits.EditFault.{EditFault}
use Rattle.recolour_bench.specs.declared.history.TheConstants.{MOST_POSITION}
use Rattle.recolour_bench.specs.Recolouring.{IsLeastUnused, least_unused}
use Rattle.recolour_bench.specs.EntryChains.{claim_by, round_claim_by}
use Rattle.recolour_bench.specs.History.{Entry, History, IsHistory, Starts, AreAlike, present, present_chain, stage_colours}
use Rattle.recolour_bench.specs.Steps.{Move, IsRawMove, grows, one_fibre, Accepts, IsRefused, Step}

-- each colouring within the limits starts a history; all that it starts are histories, and alike
abbrev pub StartExists : Type 0
StartExists = (C : PairColouring) → IsRawColouring C → (h : History) × Starts C h

abbrev pub StartIsHistory : Type 0
StartIsHistory = (C : PairColouring) (h : History) → IsRawColouring C → Starts C h → IsHistory h

abbrev pub StartIsUnique : Type 0
StartIsUnique = (C : PairColouring) (h k : History) → Starts C h → Starts C k → AreAlike h k

-- every move that names colourings within the limits leads from every history to one; a move leads from a history to a history,
-- and from alike histories to alike ones
abbrev pub StepExists : Type 0
StepExists = (h : History) (move : Move) → IsRawMove move → IsHistory h → (h2 : History) × Step h move h2

abbrev pub StepKeeps : Type 0
StepKeeps = (h : History) (move : Move) (h2 : History) → IsHistory h → Step h move h2 → IsHistory h2

abbrev pub StepIsUnique : Type 0
StepIsUnique =
    (h k : History) (move : Move) (h2 k2 : History) → IsHistory h → IsHistory k → AreAlike h k → Step h move h2 → Step k move k2 → AreAlike h2 k2

-- no move is both accepted and refused
abbrev pub NotBoth : Type 0
NotBoth = (h : History) (move : Move) (h2 : History) (fault : EditFault) → IsHistory h → Accepts h move h2 → IsRefused h move fault → ⊥

-- a move is refused with one fault, and with the same one at alike histories
abbrev pub RefusalIsUnique : Type 0
RefusalIsUnique = (h : History) (move : Move) (f g : EditFault) → IsHistory h → IsRefused h move f → IsRefused h move g → f ≡ g

abbrev pub RefusalIsAlike : Type 0
RefusalIsAlike = (h k : History) (move : Move) (fault : EditFault) → IsHistory h → AreAlike h k → IsRefused h move fault → IsRefused k move fault

-- the present colouring is within the limits, and alike histories have one
abbrev pub PresentIsRaw : Type 0
PresentIsRaw = (h : History) → IsHistory h → IsRawColouring (present h)

abbrev pub PresentIsUnique : Type 0
PresentIsUnique = (h k : History) → IsHistory h → AreAlike h k → present h ≡ present k

-- the chain of the entry shows the closure of its colouring: the claim is accepted, and is of version 1
abbrev pub IsShown : Entry → Type 0
IsShown entry = (K : PairColouring) → IsClosureOf K entry.colouring → traces.Accepts (claim_by entry.chain K) × IsVersioned (claim_by entry.chain K)

-- the text of each such claim is within the limit of a trace
abbrev pub FitsText : Entry → Type 0
FitsText entry = (K : PairColouring) → IsClosureOf K entry.colouring → length (trace_text (claim_by entry.chain K)) ≤ MOST_TRACE

-- the rounds over its colours show it too, by a claim of version 2, whose text is within that limit
abbrev pub IsShownByRounds : Entry → Type 0
IsShownByRounds entry = (K : PairColouring) (rounds : List Stage) → IsClosureOf K entry.colouring → IsRoundChain entry.chain rounds
    → traces.Accepts (round_claim_by rounds K) × IsVersioned (round_claim_by rounds K) × (length (trace_text (round_claim_by rounds K)) ≤ MOST_TRACE)

-- its chain has stages of colourings, each of which refines that of the stage before
abbrev pub IsFollowing : Entry → Type 0
IsFollowing entry = AreFollowing None entry.chain × All (λ stage. IsColouring stage.colours) entry.chain

-- each chain of a history shows the closure
abbrev pub ChainsAreAccepted : Type 0
ChainsAreAccepted = (h : History) → IsHistory h → All IsShown h.entries

-- and has no more stages than a history has positions, each of a colouring within the limits
abbrev pub ChainsAreShort : Type 0
ChainsAreShort = (h : History) → IsHistory h → All (λ entry. length entry.chain ≤ MOST_POSITION + 1) h.entries

abbrev pub ChainsAreRaw : Type 0
ChainsAreRaw = (h : History) → IsHistory h → All (λ entry. All (λ stage. IsRawColouring stage.colours) entry.chain) h.entries

-- so that its text can be checked
abbrev pub ChainTextsFit : Type 0
ChainTextsFit = (h : History) → IsHistory h → All FitsText h.entries

-- the rounds over it show the closure too; there are some, since the colours of its stages follow one another
abbrev pub RoundChainsAreAccepted : Type 0
RoundChainsAreAccepted = (h : History) → IsHistory h → All IsShownByRounds h.entries

abbrev pub ChainsFollow : Type 0
ChainsFollow = (h : History) → IsHistory h → All IsFollowing h.entries

-- alike histories have present chains of the same colours
abbrev pub ChainIsUnique : Type 0
ChainIsUnique = (h k : History) → IsHistory h → AreAlike h k → stage_colours (present_chain h) ≡ stage_colours (present_chain k)

-- and so the same rounds over them
abbrev pub RoundChainIsUnique : Type 0
RoundChainIsUnique =
    (h k : History) (rounds other : List Stage) → IsHistory h → AreAlike h k → IsRoundChain (present_chain h) rounds → IsRoundChain (present_chain k) other → rounds ≡ other

-- the number that `fix` takes is the least that no pair has
abbrev pub FixTakesLeast : Type 0
FixTakesLeast = (C : PairColouring) → IsRawColouring C → IsLeastUnused C (least_unused C)

-- how far a history goes
abbrev pub MostPosition : Type 0
MostPosition = MOST_POSITION ≡ 256

-- the test of a string passes growth strings alone, and the test of fibres colourings with one fibre alone
abbrev pub GrowthIsTested : Type 0
GrowthIsTested = (r : ℕ) (a : List ℕ) → IsTrue (grows r a) ↔ IsGrowth r a

abbrev pub FibresAreTested : Type 0
FibresAreTested = (K : PairColouring) → IsColouring K → IsTrue (one_fibre K) ↔ HasOneFibre K
