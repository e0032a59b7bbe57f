-- The numbers of a line, between single spaces.
use Rattle.std.specs.Prelude.{ℕ, ◌==◌, ◌&&◌, nat_le, Bool, List, [], length, map, Option, None, Some, unwrap_or, is_some}
use Rattle.std.specs.Borrow.{Bor}
use Rattle.std.specs.List.{slice_split, list_all}
use Rattle.text_lines.specs.Number.{number_of}

-- the words of a line between single spaces
abbrev pub between_spaces : List ℕ → List (List ℕ)
between_spaces line = slice_split (λ b. b == 32) line

-- the words that are left of a line
abbrev pub words_left : Option (Bor (List ℕ)) → List (List ℕ)
words_left None = []
words_left (Some rest) = between_spaces rest.now

-- a word in the number form that is no greater than the limit
abbrev pub is_number_to : ℕ → List ℕ → Bool
is_number_to limit word = is_some (number_of word) && nat_le (unwrap_or (number_of word) 0) limit

-- so many such numbers
abbrev pub are_numbers : ℕ → ℕ → List (List ℕ) → Bool
are_numbers limit n words = (length words == n) && list_all (is_number_to limit) words

-- a row of n numbers that are no greater than the limit
abbrev pub is_row_to : ℕ → ℕ → List ℕ → Bool
is_row_to limit n line = are_numbers limit n (between_spaces line)

-- the number that a word writes
abbrev pub value : List ℕ → ℕ
value word = unwrap_or (number_of word) 0

-- the numbers that the words of a line write
abbrev pub numbers_on : List ℕ → List ℕ
numbers_on line = map (λ word. unwrap_or (number_of word) 0) (between_spaces line)
