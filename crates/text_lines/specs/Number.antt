-- The form of numbers.
use Rattle.std.specs.Prelude.{◌≡◌, ◌==◌, ◌&&◌, not, nat_lt, ℕ, ◌^◌, ◌<◌, List, length, slice_index, decimal, Bool, Option, Some, None, if◌then◌else◌}
use Rattle.std.specs.Str.{all_ascii_digits}
use Rattle.std.specs.Str.Parse.{digits_value}

-- the word is n in decimal digits, without a leading zero, and n is below 2^32
pub record IsNumberForm (word : List ℕ) (n : ℕ) : Type 0 where
  pub digits : word ≡ decimal n
  pub limit : n < 2 ^ 32

-- more than one byte, and the first is the digit 0
abbrev pub has_leading_zero : List ℕ → Bool
has_leading_zero word = nat_lt 1 (length word) && (slice_index word 0 == 48)

-- the number that a word is in the number form, if it is one
abbrev pub number_of : List ℕ → Option ℕ
number_of word =
    if nat_lt 0 (length word) && all_ascii_digits word && not (has_leading_zero word) && nat_lt (digits_value 10 word) (2 ^ 32)
    then Some (digits_value 10 word) else None
