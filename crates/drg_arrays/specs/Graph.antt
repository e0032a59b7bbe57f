-- Graphs, and the graph of a set of colours (Brouwer, Cohen and Neumaier, Distance-Regular Graphs, 1989, sections 1.1 and 2.1).
use Rattle.std.specs.Prelude.{◌≢◌, ◌+◌, ◌*◌, ℕ, Bool, false, IsTrue, List, [], map, slice_index_or}
use Rattle.pair_colours.specs.Colouring.{PairColouring}
use Rattle.pair_colours.specs.ColourSets.{is_in, IsEdgeSet}

-- a graph on the points 0 to size - 1: whether (x, y) is an edge stands at place x * size + y
pub record Graph : Type 0 where
  pub size : ℕ
  pub edges : List Bool

-- whether y is a neighbour of x
abbrev pub is_edge : Graph → ℕ → ℕ → Bool
is_edge G x y = slice_index_or G.edges (x * G.size + y) false

abbrev pub IsEdge : Graph → ℕ → ℕ → Type 0
IsEdge G x y = IsTrue (is_edge G x y)

-- the graph whose edges are the pairs with a colour in the set
abbrev pub graph_of : PairColouring → List ℕ → Graph
graph_of C S = record { size = C.size; edges = map (is_in S) C.colours }

-- some colour is chosen, and the pairs of the chosen colours are the edges of a simple graph
pub record IsGraphSet (C : PairColouring) (S : List ℕ) : Type 0 where
  pub chosen : S ≢ []
  pub edges : IsEdgeSet C S
