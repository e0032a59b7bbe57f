-- The diagonal colours as a mask.
use Rattle.std.specs.Prelude.{◌≡◌, ◌↔◌, ℕ, ◌^◌, ◌<◌, true}
use Rattle.pair_colours.specs.Colouring.{PairColouring}
use Rattle.pair_colours.specs.Naming.{rank_of}
use Rattle.visitors.specs.Masks.{is_member}
use Rattle.colour_wl.specs.BlockSums.{IsDiagonalColour}

-- the mask is that of the diagonal colours
pub record IsDiagonalMask (K : PairColouring) (mask : ℕ) : Type 0 where
  pub low : mask < 2 ^ rank_of K
  pub bits : (c : ℕ) → c < rank_of K → (is_member mask c ≡ true) ↔ IsDiagonalColour K c
