-- Equitable partitions of the points of a digraph (Schwenk, 1974; Godsil and Royle, Algebraic Graph Theory, 2001, section 9.3).
use Rattle.std.specs.Prelude.{◌≡◌, ◌==◌, ◌&&◌, ℕ, ◌<◌, List, length, map, count_by, slice_index}
use Rattle.std.specs.List.{position_or_len}
use Rattle.pair_colours.specs.Colouring.{PairColouring, colour_at, points}
use Rattle.pair_colours.specs.Naming.{first_met}

-- A partition of the points is the list of their cells: the point x lies in the cell `slice_index W x`. An arc is a pair of colour 1.

-- how many arcs lead from x into the cell c
abbrev pub arcs_into : PairColouring → List ℕ → ℕ → ℕ → ℕ
arcs_into G W x c = count_by (λ z. (colour_at G x z == 1) && (slice_index W z == c)) (points G.size)

-- from the points of one cell equally many arcs lead into each cell
pub record IsEquitable (G : PairColouring) (W : List ℕ) : Type 0 where
  pub cells : length W ≡ G.size
  pub arcs : (x y : ℕ) → x < G.size → y < G.size → slice_index W x ≡ slice_index W y → (c : ℕ) → arcs_into G W x c ≡ arcs_into G W y c

-- how many cells there are
abbrev pub cell_count : List ℕ → ℕ
cell_count W = length (first_met W)

-- the number of a cell by first occurrence, from point 0 on: how many other cells are met before it
abbrev pub cell_number : List ℕ → ℕ → ℕ
cell_number W c = position_or_len (λ other. c == other) (first_met W)

-- the same cells, numbered by first occurrence
abbrev pub numbered : List ℕ → List ℕ
numbered W = map (cell_number W) W

-- W is the coarsest equitable partition, its cells numbered by first occurrence (McKay, Practical graph isomorphism, 1981)
pub record IsCells (G : PairColouring) (W : List ℕ) : Type 0 where
  pub equitable : IsEquitable G W
  pub named : numbered W ≡ W
  pub coarsest : (V : List ℕ) → IsEquitable G V → (x y : ℕ) → x < G.size → y < G.size → slice_index V x ≡ slice_index V y → slice_index W x ≡ slice_index W y

-- each fibre of K lies in one cell of W: points whose diagonal pairs have one colour of K are in one cell
abbrev pub LiesOverFibres : PairColouring → List ℕ → Type 0
LiesOverFibres K W = (x y : ℕ) → x < K.size → y < K.size → colour_at K x x ≡ colour_at K y y → slice_index W x ≡ slice_index W y
