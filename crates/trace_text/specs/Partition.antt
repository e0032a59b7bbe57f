-- Partitions of the pairs: colourings whose colours are the numbers below their rank.
use Rattle.std.specs.Prelude.{ℕ, ◌+◌, ◌*◌, ◌/◌, ◌%◌, ◌<◌, map}
use Rattle.pair_colours.specs.Colouring.{PairColouring, IsColouring, IsColour, colour_at, points}
use Rattle.pair_colours.specs.Naming.{rank_of, name_of, named_of}

-- a partition: a colouring whose colours are the numbers below its rank
pub record IsPartition (P : PairColouring) : Type 0 where
  pub colouring : IsColouring P
  pub below : (x y : ℕ) → x < P.size → y < P.size → colour_at P x y < rank_of P
  pub used : (k : ℕ) → k < rank_of P → IsColour P k

-- the colouring of n points that gives (x, y) the colour f x y
abbrev pub coloured_by : ℕ → (ℕ → ℕ → ℕ) → PairColouring
coloured_by n f = record { size = n; colours = map (λ place. f (place / n) (place % n)) (points (n * n)) }

-- the named meet of two colourings: two pairs have one colour where they have one in both
abbrev pub meet_of : PairColouring → PairColouring → PairColouring
meet_of A P = named_of (coloured_by A.size (λ x y. colour_at A x y * rank_of P + name_of P (colour_at P x y)))
