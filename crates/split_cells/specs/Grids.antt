-- The classes of all pairs in one list: that of the pair (x, y) stands at place x * size + y.
use Rattle.std.specs.Prelude.{◌≡◌, ℕ, ◌+◌, ◌*◌, ◌/◌, ◌%◌, ◌<◌, ◌≤◌, List, length, map, slice_index}
use Rattle.pair_colours.specs.declared.coloured_pairs.TheConstants.{MOST_POINTS}
use Rattle.pair_colours.specs.Colouring.{PairColouring, points}
pub use Rattle.wl_round.specs.Sides.{IsTurned}

-- the partition with these classes
abbrev pub grid : ℕ → List ℕ → PairColouring
grid size class = record { size = size; colours = class }

-- the first and the second point of the pair at each place
pub record IsPointTable (size : ℕ) (firsts seconds : List ℕ) : Type 0 where
  pub limit : size ≤ MOST_POINTS
  pub first : firsts ≡ map (λ p. p / size) (points (size * size))
  pub second : seconds ≡ map (λ p. p % size) (points (size * size))

-- the place of the transposed pair
abbrev pub turned_place : ℕ → ℕ → ℕ
turned_place size p = p % size * size + p / size

-- class k has a pair
pub record HasMember (class : List ℕ) (k : ℕ) : Type 0 where
  pub number : ℕ
  pub inside : number < length class
  pub member : slice_index class number ≡ k

-- each class below r has one
abbrev pub IsUsed : List ℕ → ℕ → Type 0
IsUsed class r = (k : ℕ) → k < r → HasMember class k
