-- Fibres: the classes of diagonal pairs (Higman, Coherent configurations I, 1975).
use Rattle.std.specs.Prelude.{◌≡◌, ℕ, ◌<◌}
use Rattle.pair_colours.specs.Colouring.{PairColouring, colour_at}

-- all diagonal pairs have one colour
pub record HasOneFibre (K : PairColouring) : Type 0 where
  pub one_fibre : (x y : ℕ) → x < K.size → y < K.size → colour_at K x x ≡ colour_at K y y
