-- The forms `ring TABLE COLOUR...`, `cells RELATION COLOUR...` and `lattice RELATION [I J]`: what they answer.
use Rattle.std.specs.Prelude.{ℕ, List}
use Rattle.scheme_io.specs.Files.{Files}
use Rattle.pair_colours.specs.Colouring.{PairColouring}
use Rattle.pair_colours.specs.Closure.{IsClosureOf}
use Rattle.neighbour_answers.specs.CellsAnswer.{AnswersCells}
use Rattle.neighbour_answers.specs.LatticeAnswer.{AnswersCommon, AnswersLattice}
use Rattle.neighbour_answers.specs.RingAnswer.{AnswersRing}
use Rattle.cohere_inputs.specs.Bad.{IsRelationFile}
use Rattle.cohere_inputs.specs.Task.{AskWords, Question, Ring, Cells, Lattice, Common}

-- it holds of the closure of the colouring
abbrev pub OfClosure : PairColouring → (PairColouring → Type 0) → Type 0
OfClosure C P = (K : PairColouring) × IsClosureOf K C × P K

-- t answers the question about the relation
abbrev pub AnswersQuestion : PairColouring → Question → List ℕ → Type 0
AnswersQuestion C (Ring colours) t = AnswersRing C colours t
AnswersQuestion C (Cells colours) t = AnswersCells C colours t
AnswersQuestion C Lattice t = OfClosure C (λ K. AnswersLattice K t)
AnswersQuestion C (Common i j) t = OfClosure C (λ K. AnswersCommon K i j t)

-- t answers the question about the relation in the file
pub record AskOutput (files : Files) (words : AskWords) (t : List ℕ) : Type 0 where
  pub relation : PairColouring
  pub file : IsRelationFile files words.relation 1 relation
  pub answers : AnswersQuestion relation words.question t
