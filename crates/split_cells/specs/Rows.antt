-- A partition read out row by row.
use Rattle.std.specs.Prelude.{◌≡◌, ◌≢◌, ℕ, ◌<◌, length}
use Rattle.pair_colours.specs.Colouring.{PairColouring, colour_at}

-- the pairs from x have their colours of P, and the others are as they were
pub record IsRowCopied (P : PairColouring) (x : ℕ) (old new : PairColouring) : Type 0 where
  pub size : new.size ≡ old.size
  pub len : length new.colours ≡ length old.colours
  pub row : (y : ℕ) → y < P.size → colour_at new x y ≡ colour_at P x y
  pub others : (u v : ℕ) → u < P.size → v < P.size → u ≢ x → colour_at new u v ≡ colour_at old u v
