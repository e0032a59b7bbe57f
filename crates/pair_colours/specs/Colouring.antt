-- Colourings of the ordered pairs of points (Higman, Coherent configurations I, 1975).
use Rattle.std.specs.Prelude.{◌≡◌, ◌==◌, ◌&&◌, ℕ, ◌+◌, ◌*◌, ◌^◌, ◌<◌, ◌≤◌, List, length, count_by, slice_index, All}
use Rattle.std.specs.List.{range_with_len}
use Rattle.pair_colours.specs.declared.coloured_pairs.TheConstants.{MOST_POINTS, MOST_COLOUR}

-- a colouring of the ordered pairs of the points 0 to size - 1: the colour of (x, y) stands at place x * size + y
pub record PairColouring : Type 0 where
  pub size : ℕ
  pub colours : List ℕ

-- there is a point, and each pair has a colour
pub record IsColouring (A : PairColouring) : Type 0 where
  pub has_points : 1 ≤ A.size
  pub has_pairs : length A.colours ≡ A.size * A.size

-- the colour of (x, y)
abbrev pub colour_at : PairColouring → ℕ → ℕ → ℕ
colour_at A x y = slice_index A.colours (x * A.size + y)

-- c is a colour of A: some pair has it
pub record IsColour (A : PairColouring) (c : ℕ) : Type 0 where
  pub x : ℕ
  pub y : ℕ
  pub row : x < A.size
  pub column : y < A.size
  pub is : colour_at A x y ≡ c

-- A refines B: one size, and pairs of one A-colour have one B-colour
pub record Refines (A B : PairColouring) : Type 0 where
  pub sizes : A.size ≡ B.size
  pub classes : (x y u v : ℕ) → x < A.size → y < A.size → u < A.size → v < A.size
      → colour_at A x y ≡ colour_at A u v → colour_at B x y ≡ colour_at B u v

-- A and B have the same classes
pub record IsSamePartition (A B : PairColouring) : Type 0 where
  pub finer : Refines A B
  pub coarser : Refines B A

-- the points below n
abbrev pub points : ℕ → List ℕ
points n = range_with_len 0 n

-- how many points z have the colour i from x to z and the colour j from z to y
abbrev pub triangles : PairColouring → ℕ → ℕ → ℕ → ℕ → ℕ
triangles A x y i j = count_by (λ z. (colour_at A x z == i) && (colour_at A z y == j)) (points A.size)

-- what the program keeps as a `Colouring`: 1 to 256 points, and colours below 2^32
pub record FitsColouring (A : PairColouring) : Type 0 where
  pub colouring : IsColouring A
  pub limit : A.size ≤ MOST_POINTS
  pub numbers : All (λ colour. colour < 2 ^ 32) A.colours

-- a colouring within the limits of points and of raw colours
pub record IsRawColouring (A : PairColouring) : Type 0 where
  pub fits : FitsColouring A
  pub raw : All (λ colour. colour ≤ MOST_COLOUR) A.colours
