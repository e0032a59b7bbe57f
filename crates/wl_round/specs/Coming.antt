-- Colourings between a colouring and its round.
use Rattle.std.specs.Prelude.{◌≡◌, ℕ, ◌<◌}
use Rattle.pair_colours.specs.Colouring.{PairColouring, IsColouring, Refines, colour_at}
use Rattle.pair_colours.specs.Naming.{named_of}
use Rattle.pair_colours.specs.Rounds.{Alike}

-- M is named, refines P, and parts no two pairs that are alike in P
pub record IsComing (P M : PairColouring) : Type 0 where
  pub colouring : IsColouring M
  pub refines : Refines M P
  pub together : (x y u v : ℕ) → x < P.size → y < P.size → u < P.size → v < P.size → Alike P x y u v → colour_at M x y ≡ colour_at M u v
  pub named : named_of M ≡ M
