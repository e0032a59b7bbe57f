-- Steps of the refinement on colours.
use Rattle.std.specs.Prelude.{◌≡◌, ℕ, ◌<◌}
use Rattle.pair_colours.specs.Colouring.{PairColouring, IsColouring, Refines, colour_at}
use Rattle.pair_colours.specs.Rounds.{Alike}

-- R refines P, and pairs that are alike in P have one colour in R: each split is forced, though some may be missing
pub record IsForcedRound (P R : PairColouring) : Type 0 where
  pub colouring : IsColouring R
  pub sizes : R.size ≡ P.size
  pub refines : Refines R P
  pub together : (x y u v : ℕ) → x < P.size → y < P.size → u < P.size → v < P.size
      → Alike P x y u v → colour_at R x y ≡ colour_at R u v
