-- What holds of the files of every task: none is bad, or there is exactly one first bad one, with one fault. And how long a claim may be.
use Rattle.std.specs.Prelude.{◌≡◌, ◌⊎◌, ◌^◌, ◌<◌, ◌≤◌, ℕ, List, length}
use Rattle.scheme_io.specs.Files.{Files}
use Rattle.cohere_inputs.specs.declared.faults.FileFault.{FileFault}
use Rattle.cohere_inputs.specs.Task.{Task, Run, RunWords, IsAsked}
use Rattle.pair_colours.specs.Colouring.{PairColouring}
use Rattle.script_text.specs.declared.acts.Line.{Line}
use Rattle.trace_text.specs.declared.limits.TheConstants.{MOST_TRACE}
use Rattle.trace_text.specs.declared.stage_list.Claim.{Claim}
use Rattle.trace_text.specs.BadLines.{line_count}
use Rattle.trace_text.specs.ClaimTexts.{IsTraceText}
use Rattle.cohere_inputs.specs.RunForm.{AreRunInputs}
use Rattle.cohere_inputs.specs.Needs.{Need}
use Rattle.cohere_inputs.specs.Bad.{IsFirstBad, NoneIsBad}

-- no file is bad, or there is a first bad one
abbrev pub NoneOrFirstBad : Type 0
NoneOrFirstBad = (files : Files) (task : Task) → IsAsked task → NoneIsBad files task ⊎ ((need : Need) × (fault : FileFault) × IsFirstBad files task need fault)

-- and not both
abbrev pub NoneIsFirst : Type 0
NoneIsFirst = (files : Files) (task : Task) (need : Need) (fault : FileFault) → NoneIsBad files task → ¬ IsFirstBad files task need fault

-- and two first bad files are one, with one fault
abbrev pub FirstBadIsUnique : Type 0
FirstBadIsUnique = (files : Files) (task : Task) (need other : Need) (fault another : FileFault)
    → IsFirstBad files task need fault → IsFirstBad files task other another → (need ≡ other) × (fault ≡ another)

-- where no file of a run is bad, they are its inputs
abbrev pub InputsExist : Type 0
InputsExist = (files : Files) (run : RunWords) → NoneIsBad files (Run run)
    → (C : PairColouring) × (lines : List Line) × (products : List PairColouring) × AreRunInputs files run C lines products

-- and where they are its inputs, none is bad
abbrev pub InputsAreGood : Type 0
InputsAreGood = (files : Files) (run : RunWords) (C : PairColouring) (lines : List Line) (products : List PairColouring)
    → AreRunInputs files run C lines products → NoneIsBad files (Run run)

-- a text within the limit of a trace has few lines
abbrev pub TraceHasFewLines : Type 0
TraceHasFewLines = (text : List ℕ) (claim : Claim) → length text ≤ MOST_TRACE → IsTraceText text claim → line_count claim < 2 ^ 32
