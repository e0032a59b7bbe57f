-- The value of one digit more.
use Rattle.std.proofs.Common.{◌≡◌, ◌<◌, ◌≤◌, ◌+◌, ◌*◌, ◌-◌, ℕ, List, length, take, get_or, true, leb, arith}
use Rattle.std.specs.Prelude.{All}
use Rattle.std.specs.Char.{is_ascii_digit}
use Rattle.std.specs.Str.Parse.{digits_value}
use Rattle.std.proofs.lemmas.Bool.{and_parts, leb-true}
use Rattle.std.proofs.lemmas.Str.{digit_value_digit}
use Rattle.std.proofs.lemmas.Int.Digits.{digits_value_more}

pub digit_range : (b : ℕ) → is_ascii_digit b ≡ true → (48 ≤ b) × (b ≤ 57)
digit_range b e = let parts = and_parts (leb 48 b) (leb b 57) e in (leb-true 48 b parts.0, leb-true b 57 parts.1)

pub one_more : (digits : List ℕ) (i : ℕ) → i < length digits → All (λ b. is_ascii_digit b ≡ true) digits
    → digits_value 10 (take (i + 1) digits) ≡ digits_value 10 (take i digits) * 10 + (get_or digits i 0 - 48)
one_more digits i h all =
    let range = digit_range (get_or digits i 0) (all i 0 h) in
    let value = digit_value_digit (get_or digits i 0) range in
    omega (arith, digits_value_more 10 digits i h)
