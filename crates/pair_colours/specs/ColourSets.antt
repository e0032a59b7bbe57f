-- Sets of colours as the edges of graphs.
use Rattle.std.specs.Prelude.{◌≡◌, ◌==◌, ◌⊎◌, ℕ, ◌<◌, Bool, true, false, List, All}
use Rattle.std.specs.List.{list_any}
use Rattle.pair_colours.specs.Colouring.{PairColouring, IsColouring, IsColour, colour_at}

-- the colour is in the set; order and repeats do not matter
abbrev pub is_in : List ℕ → ℕ → Bool
is_in set colour = list_any (λ member. member == colour) set

-- each number of the set is the colour of a pair
abbrev pub IsColourSet : PairColouring → List ℕ → Type 0
IsColourSet C set = All (λ colour. IsColour C colour) set

-- the pairs with a colour in the set are the edges of a simple graph: none is a diagonal pair, and the transposed pair of each is one of them
pub record IsEdgeSet (C : PairColouring) (set : List ℕ) : Type 0 where
  pub colours : IsColourSet C set
  pub loopless : (x : ℕ) → x < C.size → is_in set (colour_at C x x) ≡ false
  pub symmetric : (x y : ℕ) → x < C.size → y < C.size → is_in set (colour_at C x y) ≡ true → is_in set (colour_at C y x) ≡ true

-- a list of numbers is a set of colours, or it is not
abbrev pub ColourSetOrNot : Type 0
ColourSetOrNot = (C : PairColouring) → IsColouring C → (set : List ℕ) → IsColourSet C set ⊎ ¬ IsColourSet C set

-- and it is an edge set, or it is not
abbrev pub EdgeSetOrNot : Type 0
EdgeSetOrNot = (C : PairColouring) → IsColouring C → (set : List ℕ) → IsEdgeSet C set ⊎ ¬ IsEdgeSet C set
