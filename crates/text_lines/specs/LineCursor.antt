-- The lines that are left to read.
use Rattle.std.specs.Prelude.{ℕ, Bool, false, List, [], ◌∷◌}

-- the lines that are left, and the number of the first of them
pub record Cursor : Type 0 where
  pub line : ℕ
  pub lines : List (List ℕ)

-- there is a first line, and it passes the test
abbrev pub first_passes : (List ℕ → Bool) → List (List ℕ) → Bool
first_passes test [] = false
first_passes test (line ∷ lines) = test line
