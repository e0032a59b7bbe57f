-- What the functions that read a line answer.
use Rattle.std.specs.Prelude.{◌≡◌, ℕ, ◌<◌, ◌≤◌, Bool, true, false, IsTrue, List, Option, Some, None, map, ⊤}
use Rattle.std.specs.Borrow.{Bor}
use Rattle.std.specs.List.{list_all}
use Rattle.text_lines.specs.Part.{Part}
use Rattle.pair_colours.specs.Tests.{first_that_holds}
use Rattle.script_text.specs.declared.acts.Act.{Act}
use Rattle.script_text.specs.declared.faults.LineFault.{LineFault}
use Rattle.script_text.specs.declared.faults.LineFault.TheVariants.{Word, NoMemory}
use Rattle.script_text.specs.declared.faults.ScriptFault.{ScriptFault}
use Rattle.script_text.specs.declared.faults.ScriptFault.TheVariants as script
use Rattle.script_text.specs.declared.faults.ScriptWord.{ScriptWord}
use Rattle.script_text.specs.declared.limits.TheConstants.{MOST_LINES, MOST_PRODUCTS}
use Rattle.script_text.specs.Grammar.{AsksFor}
use Rattle.script_text.specs.LineFaults.{Test, word_texts, asks, is_script_byte}
use Rattle.script_text.specs.Script.{takes_product}

-- the fault of a line, as that of a script
abbrev pub at_line : ℕ → LineFault → ScriptFault
at_line line (Word what) = script.Text line what
at_line line NoMemory = script.NoMemory

-- borrowed words, as lists of bytes
abbrev pub texts : List (Bor (List ℕ)) → List (List ℕ)
texts words = map (λ word. word.now) words

-- the fault is want of memory or that of the first of these tests that holds
abbrev pub IsFirstFault : List Test → LineFault → Type 0
IsFirstFault tests (Word what) = first_that_holds tests ≡ Some what
IsFirstFault tests NoMemory = ⊤

-- the fault is want of memory or this one, and it comes only where its test holds
abbrev pub IsFaultWhere : ScriptWord → Bool → LineFault → Type 0
IsFaultWhere expected holds (Word what) = (what ≡ expected) × (holds ≡ true)
IsFaultWhere expected holds NoMemory = ⊤

-- the words ask for this act, or for none
abbrev pub IsAskedBy : List (List ℕ) → Option Act → Type 0
IsAskedBy words None = asks words ≡ false
IsAskedBy words (Some act) = (asks words ≡ true) × AsksFor words act

-- what a line asks for, all of whose bytes may stand in a script
pub record IsRead (line : Part) (act : Option Act) : Type 0 where
  pub bytes : list_all is_script_byte line.bytes ≡ true
  pub asked : IsAskedBy (word_texts line) act

-- whether a line multiplies by the relation of a file
abbrev pub adds_product : Option Act → Bool
adds_product None = false
adds_product (Some act) = takes_product act

-- the same for a line with this number, after so many product lines
pub record IsReadAt (number products : ℕ) (line : Part) (act : Option Act) : Type 0 where
  pub read : IsRead line act
  pub few_lines : number ≤ MOST_LINES
  pub few_products : IsTrue (adds_product act) → products < MOST_PRODUCTS
