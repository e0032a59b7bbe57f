-- The form `table D NUMBER...`: its words.
use Rattle.std.specs.Prelude.{ℕ, ◌+◌, ◌==◌, ◌&&◌, nat_le, Bool, List, [], ◌∷◌, length, take, drop, Option, Some, None, if◌then◌else◌}
use Rattle.std.specs.List.{list_all}
use Rattle.text_lines.specs.Number.{number_of}
use Rattle.array_tables.specs.declared.shares.TheConstants.{MOST_DIAMETER, MOST_NUMBER}
use Rattle.cohere_inputs.specs.NumberWords.{numbers_in}
use Rattle.cohere_inputs.specs.Task.{TableWords}

-- a number that may stand in an array
abbrev pub is_array_number : ℕ → Bool
is_array_number n = nat_le 1 n && nat_le n MOST_NUMBER

-- two numbers for each distance from 1 to d, within the limits
abbrev pub fit_diameter : ℕ → List ℕ → Bool
fit_diameter d numbers = nat_le 1 d && nat_le d MOST_DIAMETER && (length numbers == d + d) && list_all is_array_number numbers

-- the array of diameter d that the numbers make: first its b, and then its c
abbrev pub halves_of : ℕ → List ℕ → TableWords
halves_of d numbers = record { b = take d numbers; c = drop d numbers }

abbrev pub table_of : Option ℕ → Option (List ℕ) → Option TableWords
table_of (Some d) (Some numbers) = if fit_diameter d numbers then Some (halves_of d numbers) else None
table_of _ _ = None

-- the words after `table`
abbrev pub table_in : List (List ℕ) → Option TableWords
table_in [] = None
table_in (diameter ∷ words) = table_of (number_of diameter) (numbers_in words)
