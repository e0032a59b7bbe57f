-- What `array` answers.
use Rattle.std.specs.Prelude.{◌≡◌, ℕ, List}
use Rattle.pair_colours.specs.Colouring.{PairColouring}
use Rattle.drg_arrays.specs.declared.answer.ArrayAnswer.{ArrayAnswer}
use Rattle.drg_arrays.specs.declared.answer.ArrayAnswer.TheVariants.{Array, Disconnected, Irregular}
use Rattle.drg_arrays.specs.Graph.{Graph, graph_of}
use Rattle.drg_arrays.specs.Distance.{HasWalk, IsConnected}
use Rattle.drg_arrays.specs.IntersectionArray.{IsFirstPair, AtOneDistance, IsIrregular, HasArray}

-- no walk leads from x to y, and (x, y) is the first such pair
abbrev pub IsDisconnectedAt : Graph → ℕ → ℕ → Type 0
IsDisconnectedAt G x y = IsFirstPair G (λ u v. ¬ HasWalk G u v) x y

-- G is connected, (u, v) is its first irregular pair, and (x, y) the first pair at the distance of (u, v)
pub record IsIrregularAt (G : Graph) (x y u v : ℕ) : Type 0 where
  pub connected : IsConnected G
  pub irregular : IsFirstPair G (IsIrregular G) u v
  pub compared : IsFirstPair G (AtOneDistance G u v) x y

-- the answer for a graph
abbrev pub IsGraphAnswer : Graph → ArrayAnswer → Type 0
IsGraphAnswer G (Array b c) = HasArray G b c
IsGraphAnswer G (Disconnected x y) = IsDisconnectedAt G x y
IsGraphAnswer G (Irregular x y u v) = IsIrregularAt G x y u v

-- the answer for the graph of a set of colours
abbrev pub IsArrayAnswer : PairColouring → List ℕ → ArrayAnswer → Type 0
IsArrayAnswer C S answer = IsGraphAnswer (graph_of C S) answer

-- no other answer is right
abbrev pub IsOnlyAnswer : PairColouring → List ℕ → ArrayAnswer → Type 0
IsOnlyAnswer C S answer = (other : ArrayAnswer) → IsArrayAnswer C S other → other ≡ answer
