-- The form `run RELATION SCRIPT [LINE]`: its words, and what is read for it.
use Rattle.std.specs.Prelude.{ℕ, nat_le, ◌&&◌, not, List, [], ◌∷◌, codes, bytes_eq, Option, Some, None, if◌then◌else◌}
use Rattle.text_lines.specs.Number.{number_of}
use Rattle.pair_colours.specs.Colouring.{PairColouring}
use Rattle.scheme_io.specs.Files.{Files}
use Rattle.script_text.specs.declared.acts.Line.{Line}
use Rattle.cohere_inputs.specs.declared.words.TheConstants.{MOST_LINE}
use Rattle.cohere_inputs.specs.Task.{RunWords}
use Rattle.cohere_inputs.specs.Bad.{IsRelationFile, IsScriptFile, AreProductsOf}

-- the run over these files at the line: not both are standard input, and the line is within the limits
abbrev pub run_of : List ℕ → List ℕ → Option ℕ → Option RunWords
run_of relation script None = None
run_of relation script (Some line) =
    if not (bytes_eq relation (codes "-") && bytes_eq script (codes "-")) && nat_le 1 line && nat_le line MOST_LINE
    then Some (record { relation = relation; script = script; line = line }) else None

-- the words after `run`
abbrev pub run_in : List (List ℕ) → Option RunWords
run_in (relation ∷ script ∷ []) = run_of relation script (Some 1)
run_in (relation ∷ script ∷ line ∷ []) = run_of relation script (number_of line)
run_in _ = None

-- the files that the words name are this relation and a script of these lines
pub record AreNamedInputs (files : Files) (run : RunWords) (C : PairColouring) (lines : List Line) : Type 0 where
  pub relation : IsRelationFile files run.relation run.line C
  pub script : IsScriptFile files run.script lines

-- and the files that the script names are the relations by which its lines multiply
pub record AreRunInputs (files : Files) (run : RunWords) (C : PairColouring) (lines : List Line) (products : List PairColouring) : Type 0 where
  pub named : AreNamedInputs files run C lines
  pub multiply : AreProductsOf files lines products
