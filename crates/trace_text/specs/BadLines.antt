-- What a claim has to meet line by line, and its first bad line.
use Rattle.std.specs.Prelude.{◌≡◌, ℕ, ◌+◌, List, [], ◌∷◌, ◌++◌, length, sum_by, Option, None, Some}
use Rattle.std.specs.List.{AllByRecursion}
use Rattle.pair_colours.specs.Colouring.{PairColouring, Refines}
use Rattle.pair_colours.specs.Closure.{Coherent}
use Rattle.pair_colours.specs.Naming.{named_of}
use Rattle.trace_text.specs.declared.check_words.CheckWord.{CheckWord}
use Rattle.trace_text.specs.declared.check_words.CheckWord.TheVariants.{StageNotRefining, NoSuchClass, IdleStep, NotCoherent, WrongClosure}
use Rattle.trace_text.specs.declared.step_list.Step.{Step}
use Rattle.trace_text.specs.declared.stage_list.Stage.{Stage}
use Rattle.trace_text.specs.declared.stage_list.Claim.{Claim}
use Rattle.trace_text.specs.Split.{NamesClasses, HasParts, split_of}
use Rattle.trace_text.specs.Chains.{StageEnd, partition_before, stage_start, stage_end, chain_end}

-- what has to hold at a line: colours refine those of the stage before; a step names classes of the partition before it, and parts one;
-- the last partition is coherent, and the claimed closure is its naming
pub data Condition : Type 0 where
  refines_stage : PairColouring → PairColouring → Condition
  names_classes : PairColouring → Step → Condition
  has_parts : PairColouring → Step → Condition
  ends_coherent : PairColouring → Condition
  names_end : PairColouring → PairColouring → Condition

-- the condition holds
abbrev pub Holds : Condition → Type 0
Holds (refines_stage C before) = Refines C before
Holds (names_classes P s) = NamesClasses P s
Holds (has_parts P s) = HasParts P s
Holds (ends_coherent P) = Coherent P
Holds (names_end K P) = K ≡ named_of P

-- the word for a condition that does not hold
abbrev pub word_of : Condition → CheckWord
word_of (refines_stage C before) = StageNotRefining
word_of (names_classes P s) = NoSuchClass
word_of (has_parts P s) = IdleStep
word_of (ends_coherent P) = NotCoherent
word_of (names_end K P) = WrongClosure

-- the conditions on steps from P on, the first of which stands on this line
abbrev pub step_conditions : ℕ → PairColouring → List Step → List (ℕ × Condition)
step_conditions line P [] = []
step_conditions line P (s ∷ steps) = (line, names_classes P s) ∷ (line, has_parts P s) ∷ step_conditions (line + 1) (split_of P s) steps

-- the condition on the colours of a stage: there is none on those of the first
abbrev pub colours_conditions : ℕ → Option StageEnd → PairColouring → List (ℕ × Condition)
colours_conditions line None C = []
colours_conditions line (Some before) C = (line, refines_stage C before.colours) ∷ []

-- the conditions on a stage that begins with this line; its rows of colours follow, and then its steps
abbrev pub stage_conditions : ℕ → Option StageEnd → Stage → List (ℕ × Condition)
stage_conditions line before stage =
    colours_conditions line before stage.colours ++ step_conditions (line + 1 + stage.colours.size) (stage_start (partition_before before) stage.colours) stage.steps

-- how many lines a stage has
abbrev pub line_count_of_stage : Stage → ℕ
line_count_of_stage stage = 1 + stage.colours.size + length stage.steps

-- the conditions on the stages
abbrev pub chain_conditions : ℕ → Option StageEnd → List Stage → List (ℕ × Condition)
chain_conditions line before [] = []
chain_conditions line before (stage ∷ rest) =
    stage_conditions line before stage ++ chain_conditions (line + line_count_of_stage stage) (Some (stage_end before stage)) rest

-- the conditions on the claimed closure
abbrev pub end_conditions : ℕ → Option StageEnd → PairColouring → List (ℕ × Condition)
end_conditions line None K = []
end_conditions line (Some last) K = (line, ends_coherent last.partition) ∷ (line, names_end K last.partition) ∷ []

-- the first stage begins on the third line of the claim's text
abbrev pub first_line : ℕ
first_line = 3

-- the line `closure`, after the stages
abbrev pub closure_line : Claim → ℕ
closure_line claim = first_line + sum_by line_count_of_stage claim.chain

-- how many lines the text of the claim has: after the rows of the claimed closure comes the line `end`
abbrev pub line_count : Claim → ℕ
line_count claim = closure_line claim + claim.closure.size + 1

-- all conditions on a claim, in the order of their lines
abbrev pub conditions : Claim → List (ℕ × Condition)
conditions claim = chain_conditions first_line None claim.chain ++ end_conditions (closure_line claim) (chain_end claim.chain) claim.closure

-- all of the conditions hold
abbrev pub AllHold : List (ℕ × Condition) → Type 0
AllHold listed = AllByRecursion (λ at. Holds at.1) listed

-- the first of the conditions that does not hold stands on this line, and this is its word
pub record IsFirstFailing (listed : List (ℕ × Condition)) (line : ℕ) (word : CheckWord) : Type 0 where
  pub before : List (ℕ × Condition)
  pub condition : Condition
  pub rest : List (ℕ × Condition)
  pub parts : listed ≡ before ++ (line, condition) ∷ rest
  pub hold : AllHold before
  pub fails : ¬ Holds condition
  pub says : word_of condition ≡ word

-- the first bad line of the claim's text, with its first word
abbrev pub IsFirstBadLine : Claim → ℕ → CheckWord → Type 0
IsFirstBadLine claim line word = IsFirstFailing (conditions claim) line word
