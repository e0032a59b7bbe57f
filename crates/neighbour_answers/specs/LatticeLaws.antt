-- Each question of `lattice` has exactly one answer.
use Rattle.std.specs.Prelude.{◌≡◌, ℕ, List}
use Rattle.pair_colours.specs.Colouring.{PairColouring}
use Rattle.struct_consts.specs.ClassData.{IsConfiguration}
use Rattle.neighbour_answers.specs.LatticeAnswer.{AnswersLattice, AnswersCommon}

-- there is one text with the covers of each configuration
pub record LatticeAnswersAreUnique : Type 0 where
  pub exists : (K : PairColouring) → (t : List ℕ) × AnswersLattice K t
  pub unique : (K : PairColouring) (t u : List ℕ) → AnswersLattice K t → AnswersLattice K u → t ≡ u

-- and one with the common fusion of two, wherever they stand
pub record CommonAnswersAreUnique : Type 0 where
  pub exists : (K : PairColouring) → IsConfiguration K → (i j : ℕ) → (t : List ℕ) × AnswersCommon K i j t
  pub unique : (K : PairColouring) → IsConfiguration K → (i j : ℕ) (t u : List ℕ) → AnswersCommon K i j t → AnswersCommon K i j u → t ≡ u
