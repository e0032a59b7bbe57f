-- The signature of a pair, in which the exact round finds it.
use Rattle.std.specs.Prelude.{◌≡◌, ◌==◌, ℕ, List, [], ◌∷◌, ◌++◌, if◌then◌else◌}
use Rattle.std.specs.List.Sorted.{IsPermutation, IsNonDecreasing}
use Rattle.pair_colours.specs.Colouring.{PairColouring, colour_at}
use Rattle.pair_colours.specs.SideCodes.{side_codes}

-- s lists the codes of the sides of (x, y) in rising order, and then whether it is on the diagonal, its colour and its transposed colour
pub record IsSignature (P : PairColouring) (x y : ℕ) (s : List ℕ) : Type 0 where
  pub sides : List ℕ
  pub rising : IsNonDecreasing sides
  pub of_pair : IsPermutation (side_codes P x y) sides
  pub is : s ≡ sides ++ (if x == y then 1 else 0) ∷ colour_at P x y ∷ colour_at P y x ∷ []
