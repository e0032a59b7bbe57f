-- The output of a script.
use Rattle.std.specs.Prelude.{ℕ, List}
use Rattle.pair_colours.specs.Colouring.{PairColouring}
use Rattle.recolour_bench.specs.History.{History, Starts}
use Rattle.script_text.specs.declared.acts.Line.{Line}
use Rattle.cohere_core.specs.Answer.{Runs}

-- t is the answers of the lines, along a run from a history that starts with C; the lines that take a product take these, in order
abbrev pub ScriptOutput : PairColouring → List PairColouring → List Line → List ℕ → Type 0
ScriptOutput C products lines t = (start : History) × Starts C start × (end : History) × Runs start products lines end t
