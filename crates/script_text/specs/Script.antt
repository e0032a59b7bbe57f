-- What a script is: the reading of a text by the grammar, within the limits.
use Rattle.std.specs.Prelude.{◌≡◌, ℕ, ◌≤◌, ◌⊎◌, IsTrue, IsSome, Bool, true, false, List, length, map, filter, count_by, Some, None, ⊤}
use Rattle.std.specs.List.{AllZip, AllByRecursion, list_all, enumerate_from}
use Rattle.text_lines.specs.Lines.{lines_of}
use Rattle.text_lines.specs.Part.{Part}
use Rattle.script_text.specs.declared.acts.Act.{Act}
use Rattle.script_text.specs.declared.acts.Act.TheVariants.{Direct, Wreath, Mergings, Trace}
use Rattle.script_text.specs.declared.acts.Line.{Line}
use Rattle.script_text.specs.declared.faults.ScriptWord.{ScriptWord}
use Rattle.script_text.specs.declared.limits.TheConstants.{MOST_LINES, MOST_PRODUCTS}
use Rattle.script_text.specs.Grammar.{AsksFor, IsLimit, IsTraceVersion}
use Rattle.script_text.specs.LineFaults.{word_texts, asks, is_script_byte, script_fault}

-- the lines that are neither blank nor comments, each with its number and its words
abbrev pub asking_lines : List Part → List (ℕ × List (List ℕ))
asking_lines lines = filter (λ line. asks line.1) (enumerate_from 1 (map word_texts lines))

-- the line of the script has this number, and these words ask for its act
pub record IsLine (asked : ℕ × List (List ℕ)) (line : Line) : Type 0 where
  pub number : line.number ≡ asked.0
  pub act : AsksFor asked.1 line.act

-- the act multiplies by the relation of a file
abbrev pub takes_product : Act → Bool
takes_product (Direct file) = true
takes_product (Wreath file) = true
takes_product _ = false

-- how many lines of a script do
abbrev pub product_count : List Line → ℕ
product_count script = count_by (λ line. takes_product line.act) script

-- the lines are this script: each line that is neither blank nor a comment, in order, with what it asks for, within the limits
pub record AreScript (lines : List Part) (script : List Line) : Type 0 where
  pub asked : AllZip IsLine (asking_lines lines) script
  pub few_lines : length lines ≤ MOST_LINES
  pub bytes : AllByRecursion (λ line. IsTrue (list_all is_script_byte line.bytes)) lines
  pub few_products : product_count script ≤ MOST_PRODUCTS

-- the text is this script
pub record IsScript (text : List ℕ) (script : List Line) : Type 0 where
  pub lines : AreScript (lines_of text) script

-- how many fusions an act may ask for, and traces of which versions
abbrev pub KeepsLimit : Act → Type 0
KeepsLimit (Mergings most after) = IsLimit most
KeepsLimit (Trace version) = IsTraceVersion version
KeepsLimit _ = ⊤

-- a text is at most one script
abbrev pub ScriptIsUnique : Type 0
ScriptIsUnique = (text : List ℕ) (script other : List Line) → IsScript text script → IsScript text other → script ≡ other

-- a text is a script or has a fault
abbrev pub ScriptOrFault : Type 0
ScriptOrFault = (text : List ℕ) → ((script : List Line) × IsScript text script) ⊎ IsSome (script_fault text)

-- a script has no fault
abbrev pub ScriptHasNoFault : Type 0
ScriptHasNoFault = (text : List ℕ) (script : List Line) → IsScript text script → script_fault text ≡ None

-- and a text with a fault is no script
abbrev pub FaultHasNoScript : Type 0
FaultHasNoScript = (text : List ℕ) (fault : ℕ × ScriptWord) → script_fault text ≡ Some fault → (script : List Line) → ¬ IsScript text script
