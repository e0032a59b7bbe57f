-- Each question has an answer.
use Rattle.std.specs.Prelude.{◌≡◌, ℕ, List}
use Rattle.pair_colours.specs.Colouring.{PairColouring, FitsColouring, IsColouring}
use Rattle.neighbour_answers.specs.CellsAnswer.{AnswersCells}
use Rattle.neighbour_answers.specs.RingAnswer.{AnswersRing}

-- `ring` has an answer for each table and each list of colours
abbrev pub RingAnswerExists : Type 0
RingAnswerExists = (T : PairColouring) (f : List ℕ) → IsColouring T → (t : List ℕ) × AnswersRing T f t

-- and only one
abbrev pub RingAnswerIsUnique : Type 0
RingAnswerIsUnique = (T : PairColouring) (f t u : List ℕ) → AnswersRing T f t → AnswersRing T f u → t ≡ u

-- `cells` has an answer for each relation and each set
abbrev pub CellsAnswerExists : Type 0
CellsAnswerExists = (C : PairColouring) (set : List ℕ) → FitsColouring C → (t : List ℕ) × AnswersCells C set t
