-- What holds of the answers for every colouring.
use Rattle.std.specs.Prelude.{◌⊎◌, ℕ, List}
use Rattle.pair_colours.specs.Colouring.{PairColouring, FitsColouring}
use Rattle.drg_arrays.specs.declared.answer.ArrayAnswer.{ArrayAnswer}
use Rattle.drg_arrays.specs.Graph.{Graph, IsGraphSet}
use Rattle.drg_arrays.specs.Answer.{IsArrayAnswer, IsOnlyAnswer}
use Rattle.drg_arrays.specs.Tables.{FitsGraph, IsDistanceTable}

-- a set of colours is that of a graph or not, and where it is, there is an answer
abbrev pub AnswerExists : Type 0
AnswerExists = (C : PairColouring) → FitsColouring C → (S : List ℕ)
    → (¬ IsGraphSet C S) ⊎ (IsGraphSet C S × ((answer : ArrayAnswer) × IsArrayAnswer C S answer))

-- and at most one
abbrev pub AnswerIsUnique : Type 0
AnswerIsUnique = (C : PairColouring) (S : List ℕ) (answer : ArrayAnswer) → IsArrayAnswer C S answer → IsOnlyAnswer C S answer

-- every graph has a table of its distances
abbrev pub DistancesExist : Type 0
DistancesExist = (G : Graph) → FitsGraph G → (table : List ℕ) × IsDistanceTable G table G.size
