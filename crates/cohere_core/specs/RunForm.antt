-- The form `run RELATION SCRIPT [LINE]`: what it answers.
use Rattle.std.specs.Prelude.{ℕ, List}
use Rattle.scheme_io.specs.Files.{Files}
use Rattle.pair_colours.specs.Colouring.{PairColouring}
use Rattle.script_text.specs.declared.acts.Line.{Line}
use Rattle.cohere_inputs.specs.Task.{RunWords}
use Rattle.cohere_inputs.specs.RunForm.{AreRunInputs}
use Rattle.cohere_core.specs.Output.{ScriptOutput}

-- t is an output of the run over these files
pub record RunOutput (files : Files) (run : RunWords) (t : List ℕ) : Type 0 where
  pub relation : PairColouring
  pub lines : List Line
  pub products : List PairColouring
  pub inputs : AreRunInputs files run relation lines products
  pub output : ScriptOutput relation products lines t
