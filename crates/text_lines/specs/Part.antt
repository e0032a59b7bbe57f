-- Parts of a text, each with the byte place where it starts.
use Rattle.std.specs.Prelude.{ℕ, ◌+◌, List, [], ◌∷◌, length}

pub record Part : Type 0 where
  pub start : ℕ
  pub bytes : List ℕ

-- parts that stand one after the other with one byte between them, the first at `start`
abbrev pub placed : ℕ → List (List ℕ) → List Part
placed start [] = []
placed start (part ∷ parts) = record { start = start; bytes = part } ∷ placed (start + length part + 1) parts
