-- What holds of the outputs of every task, of the answers of every script, and of every demonstration.
use Rattle.std.specs.Prelude.{◌≡◌, ◌≢◌, ◌⊎◌, ◌≤◌, ℕ, List, All, length, Some}
use Rattle.std.specs.FinMap.{get}
use Rattle.scheme_io.specs.Files.{Files}
use Rattle.pair_colours.specs.Colouring.{PairColouring, IsRawColouring}
use Rattle.pair_colours.specs.Closure.{IsClosureOf}
use Rattle.trace_text.specs.declared.limits.TheConstants.{MOST_TRACE}
use Rattle.trace_text.specs.declared.stage_list.Claim.{Claim}
use Rattle.trace_text.specs.Acceptance as traces
use Rattle.trace_text.specs.ClaimTexts.{IsTraceText}
use Rattle.recolour_bench.specs.History.{History, IsHistory, AreAlike, present}
use Rattle.script_text.specs.declared.acts.Act.TheVariants.{Trace}
use Rattle.script_text.specs.declared.acts.Line.{Line}
use Rattle.cohere_inputs.specs.Bad.{NoneIsBad}
use Rattle.cohere_inputs.specs.Task.{Check, Task}
use Rattle.cohere_core.specs.declared.status.Status.{Status}
use Rattle.cohere_core.specs.declared.status.Status.TheVariants.{Done, NoMemory}
use Rattle.cohere_core.specs.Answer.{Runs, Tells}
use Rattle.cohere_core.specs.DemoForm.{DemoOutput}
use Rattle.cohere_core.specs.Forms.{IsSomeOutputOf}
use Rattle.cohere_core.specs.Output.{ScriptOutput}
use Rattle.cohere_core.specs.Products.{AreProducts}
use Rattle.cohere_core.specs.Run.{IsStatusWithoutFaults}
use Rattle.cohere_core.specs.Agreement.{AgreeLineByLine}

-- where no file is bad, each task has an output
abbrev pub TaskHasOutput : Type 0
TaskHasOutput = (task : Task) (files : Files) → NoneIsBad files task → (t : List ℕ) × IsSomeOutputOf files task t

-- a script has an output over every colouring that starts a history and every list of its products
abbrev pub OutputExists : Type 0
OutputExists = (C : PairColouring) (products : List PairColouring) (lines : List Line) → IsRawColouring C → AreProducts products lines → (t : List ℕ) × ScriptOutput C products lines t

-- and its lines lead on from every history
abbrev pub RunExists : Type 0
RunExists = (h : History) (products : List PairColouring) (lines : List Line) → IsHistory h → AreProducts products lines → (end : History) × (t : List ℕ) × Runs h products lines end t

-- the outputs of a script over a colouring agree line by line: they differ in the steps of traces of version 1 alone
abbrev pub OutputsAgree : Type 0
OutputsAgree =
    (C : PairColouring) (products : List PairColouring) (lines : List Line) (t u : List ℕ) → IsRawColouring C
    → ScriptOutput C products lines t → ScriptOutput C products lines u → AgreeLineByLine lines t u

-- and so do the answers of lines from alike histories, which lead to alike ones
abbrev pub RunsAgree : Type 0
RunsAgree =
    (h k end other : History) (products : List PairColouring) (lines : List Line) (t u : List ℕ) → IsHistory h → IsHistory k → AreAlike h k
    → Runs h products lines end t → Runs k products lines other u → AreAlike end other × AgreeLineByLine lines t u

-- no line asks for a trace of version 1, whose steps may be chosen
abbrev pub HasNoTrace : List Line → Type 0
HasNoTrace lines = All (λ line. line.act ≢ Trace 1) lines

-- where no line does, a script has one output over a colouring
abbrev pub OutputIsUnique : Type 0
OutputIsUnique =
    (C : PairColouring) (products : List PairColouring) (lines : List Line) (t u : List ℕ) → IsRawColouring C → HasNoTrace lines
    → ScriptOutput C products lines t → ScriptOutput C products lines u → t ≡ u

-- and its lines have one text from alike histories, and lead to alike ones
abbrev pub RunIsUnique : Type 0
RunIsUnique =
    (h k end other : History) (products : List PairColouring) (lines : List Line) (t u : List ℕ) → IsHistory h → IsHistory k → AreAlike h k → HasNoTrace lines
    → Runs h products lines end t → Runs k products lines other u → AreAlike end other × (t ≡ u)

-- the text is that of an accepted claim that K is the closure of C, and no longer than a trace may be
pub record ShowsClosure (C K : PairColouring) (text : List ℕ) : Type 0 where
  pub claim : Claim
  pub reads : IsTraceText text claim
  pub accepted : traces.Accepts claim
  pub claims : claim.closure ≡ K
  pub closure : IsClosureOf K C
  pub short : length text ≤ MOST_TRACE

-- each trace that is shown is one of the closure of the present colouring
abbrev pub TraceShowsClosure : Type 0
TraceShowsClosure = (h : History) (version : ℕ) (text : List ℕ) → IsHistory h → Tells h (Trace version) text → (K : PairColouring) × ShowsClosure (present h) K text

-- and a check of a file that holds it, over which no count of faults rises, ends with Done, unless memory is wanting
abbrev pub TraceIsChecked : Type 0
TraceIsChecked =
    (h : History) (version : ℕ) (text : List ℕ) (files : Files) (name : List ℕ) (status : Status) → IsHistory h → Tells h (Trace version) text → get files name ≡ Some text
    → IsStatusWithoutFaults (Check name) status (Some files) → (status ≡ Done) ⊎ (status ≡ NoMemory)

-- the demonstration of each number has an output
abbrev pub DemoExists : Type 0
DemoExists = (number : ℕ) → (t : List ℕ) × DemoOutput number t

-- and only one
abbrev pub DemoIsUnique : Type 0
DemoIsUnique = (number : ℕ) (t u : List ℕ) → DemoOutput number t → DemoOutput number u → t ≡ u
