-- Which of the files that are loaded is bad, and why.
use Rattle.std.specs.Prelude.{◌≡◌, ◌⊎◌, ◌<◌, ◌≤◌, ℕ, List, [], ◌∷◌, ◌++◌, length, Some, None}
use Rattle.std.specs.List.{AllByRecursion, AllZip}
use Rattle.std.specs.FinMap.{get}
use Rattle.scheme_io.specs.Files.{Files}
use Rattle.pair_colours.specs.Colouring.{PairColouring}
use Rattle.relation_text.specs.Relation.{IsRelationText}
use Rattle.script_text.specs.Script.{IsScript}
use Rattle.script_text.specs.declared.acts.Line.{Line}
use Rattle.trace_text.specs.declared.stage_list.Claim.{Claim}
use Rattle.trace_text.specs.ClaimTexts.{IsTraceText}
use Rattle.equitable.specs.declared.cell_claims.CellClaim.{CellClaim}
use Rattle.equitable.specs.ClaimText.{IsCellText}
use Rattle.cohere_inputs.specs.declared.faults.FileFault.{FileFault}
use Rattle.cohere_inputs.specs.declared.faults.FileFault.TheVariants.{Missing, TooLong}
use Rattle.cohere_inputs.specs.Task.{Task, Run, RunWords}
use Rattle.cohere_inputs.specs.Kind.{limit_of}
use Rattle.cohere_inputs.specs.Needs.{Need, named_files, product_needs, relation_need, script_need, trace_need, cell_trace_need}
use Rattle.cohere_inputs.specs.Products.{products_of}
use Rattle.cohere_inputs.specs.Texts.{IsText, IsTextFault}

-- the file is there, and these are its bytes, within the limit of its kind
pub record HoldsWithin (files : Files) (need : Need) (bytes : List ℕ) : Type 0 where
  pub holds : get files need.name ≡ Some bytes
  pub short : length bytes ≤ limit_of need.kind

-- the file holds what it must
pub record IsGood (files : Files) (need : Need) : Type 0 where
  pub bytes : List ℕ
  pub file : HoldsWithin files need bytes
  pub text : IsText need.kind bytes

-- the file is there, and longer than its limit
abbrev pub IsTooLong : Files → Need → Type 0
IsTooLong files need = (bytes : List ℕ) × (get files need.name ≡ Some bytes) × (limit_of need.kind < length bytes)

-- the file is bad for this reason
abbrev pub IsFault : Files → Need → FileFault → Type 0
IsFault files need Missing = get files need.name ≡ None
IsFault files need TooLong = IsTooLong files need
IsFault files need fault = (bytes : List ℕ) × HoldsWithin files need bytes × IsTextFault need.kind bytes fault

-- the file is the relation C at this line
pub record IsRelationFile (files : Files) (name : List ℕ) (line : ℕ) (C : PairColouring) : Type 0 where
  pub bytes : List ℕ
  pub file : HoldsWithin files (relation_need name line) bytes
  pub reads : IsRelationText bytes line C

-- the file is a script of these lines
pub record IsScriptFile (files : Files) (name : List ℕ) (lines : List Line) : Type 0 where
  pub bytes : List ℕ
  pub file : HoldsWithin files (script_need name) bytes
  pub reads : IsScript bytes lines

-- the file is a trace of this claim
pub record IsTraceFile (files : Files) (name : List ℕ) (claim : Claim) : Type 0 where
  pub bytes : List ℕ
  pub file : HoldsWithin files (trace_need name) bytes
  pub reads : IsTraceText bytes claim

-- the file is a trace of this claim of cells
pub record IsCellTraceFile (files : Files) (name : List ℕ) (claim : CellClaim) : Type 0 where
  pub bytes : List ℕ
  pub file : HoldsWithin files (cell_trace_need name) bytes
  pub reads : IsCellText bytes claim

-- the files of the products of these lines hold these relations, one for each product line, in order
abbrev pub AreProductsOf : Files → List Line → List PairColouring → Type 0
AreProductsOf files lines products = AllZip (λ name C. IsRelationFile files name 1 C) (products_of lines) products

-- the files that the script of a run names: its product files where it is good, and none where it is bad
abbrev pub AreProductNeeds : Files → RunWords → List Need → Type 0
AreProductNeeds files run needs =
    ((lines : List Line) × IsScriptFile files run.script lines × (needs ≡ product_needs lines))
    ⊎ ((¬ IsGood files (script_need run.script)) × (needs ≡ []))

-- the files that are loaded for the task, in order: those that the words name, and then, for a run, those that its script names
abbrev pub AreLoaded : Files → Task → List Need → Type 0
AreLoaded files (Run run) needs = (products : List Need) × AreProductNeeds files run products × (needs ≡ named_files (Run run) ++ products)
AreLoaded files task needs = needs ≡ named_files task

-- no file of the list before this one is bad
abbrev pub IsReachedIn : Files → List Need → Need → Type 0
IsReachedIn files [] need = ⊥
IsReachedIn files (first ∷ rest) need = (need ≡ first) ⊎ (IsGood files first × IsReachedIn files rest need)

-- the file is loaded for the task, and none that is loaded before it is bad
pub record IsReached (files : Files) (task : Task) (need : Need) : Type 0 where
  pub needs : List Need
  pub loaded : AreLoaded files task needs
  pub reached : IsReachedIn files needs need

-- the first bad file, in the order in which they are loaded, and why it is bad
abbrev pub IsFirstBad : Files → Task → Need → FileFault → Type 0
IsFirstBad files task need fault = IsReached files task need × IsFault files need fault

-- no file that is loaded for the task is bad
pub record NoneIsBad (files : Files) (task : Task) : Type 0 where
  pub needs : List Need
  pub loaded : AreLoaded files task needs
  pub good : AllByRecursion (IsGood files) needs
