-- Answers that show a graph of classes.
use Rattle.std.specs.Prelude.{ℕ, List, ◌++◌, codes}
use Rattle.report_text.specs.declared.graphs.GraphNote.{GraphNote}
use Rattle.report_text.specs.declared.graphs.GraphNote.TheVariants.{Graph6, Digraph6}

-- the name of a graph format (McKay)
abbrev pub format_of : GraphNote → List ℕ
format_of Graph6 = codes "graph6"
format_of Digraph6 = codes "digraph6"

-- a graph's text, after the name of its format
abbrev pub graph_line : GraphNote → List ℕ → List ℕ
graph_line form text = format_of form ++ codes " " ++ text ++ codes "\n"
