-- Words that are all numbers.
use Rattle.std.specs.Prelude.{ℕ, Bool, List, [], ◌∷◌, map, Option, Some, None, is_some, unwrap_or, if◌then◌else◌}
use Rattle.std.specs.List.{list_all}
use Rattle.text_lines.specs.Number.{number_of}

-- the word is in the form of numbers
abbrev pub is_number : List ℕ → Bool
is_number word = is_some (number_of word)

-- the number that it is then
abbrev pub number_in : List ℕ → ℕ
number_in word = unwrap_or (number_of word) 0

-- the numbers that the words are, where each is one
abbrev pub numbers_in : List (List ℕ) → Option (List ℕ)
numbers_in words = if list_all is_number words then Some (map number_in words) else None

-- the same, where there is a word
abbrev pub some_numbers_in : List (List ℕ) → Option (List ℕ)
some_numbers_in [] = None
some_numbers_in (word ∷ words) = numbers_in (word ∷ words)
