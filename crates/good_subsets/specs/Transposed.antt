-- Transposed sets of colours.
use Rattle.std.specs.Prelude.{◌≡◌, ℕ, ◌^◌, ◌<◌, List, filter}
use Rattle.pair_colours.specs.Colouring.{PairColouring, points}
use Rattle.pair_colours.specs.ColourSets.{is_in}
use Rattle.pair_colours.specs.Naming.{rank_of}
use Rattle.visitors.specs.Masks.{members_of}
use Rattle.colour_wl.specs.BlockSums.{transposed}

-- the transposes of a set of colours
abbrev pub transposes : PairColouring → List ℕ → List ℕ
transposes K set = filter (λ c. is_in set (transposed K c)) (points (rank_of K))

-- the second mask has the transposes of the members of the first
pub record IsTurned (K : PairColouring) (mask turned : ℕ) : Type 0 where
  pub low : turned < 2 ^ rank_of K
  pub members : members_of (rank_of K) turned ≡ transposes K (members_of (rank_of K) mask)
