-- The form `demo NUMBER`: its words.
use Rattle.std.specs.Prelude.{ℕ, List, [], ◌∷◌, Option, None}
use Rattle.text_lines.specs.Number.{number_of}

-- the number, where the words after `demo` are one word in the form of numbers
abbrev pub demo_in : List (List ℕ) → Option ℕ
demo_in (number ∷ []) = number_of number
demo_in _ = None
