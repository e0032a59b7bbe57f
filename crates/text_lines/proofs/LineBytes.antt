-- Lines whose bytes end no line are those of their text.
use Rattle.std.proofs.Common.{◌≡◌, ℕ, ◌+◌, ◌-◌, ◌<◌, ◌≤◌, ◌^◌, true, cond, eqb, leb, ltb, List, [], ◌∷◌, ◌++◌, length, take, map, get_or, refl, sym, ap, ◌∙◌, arith}
use Rattle.std.specs.Prelude.{codes, decimal}
use Rattle.std.specs.List.{AllByRecursion, flat_map, join_with_byte, position_or_len, list_all}
use Rattle.std.specs.Str.{all_ascii_digits}
use Rattle.std.specs.Str.Lines.{strip_carriage_return}
use Rattle.std.specs.Char.{is_ascii_digit}
use Rattle.std.proofs.Math.Seq.{drop-append-add}
use Rattle.std.proofs.lemmas.Bool.{ne_eqb, leb-true, ltb-true, eq-eqb}
use Rattle.std.proofs.lemmas.Fmt.{digits_decimal, decimal_nonempty}
use Rattle.std.proofs.lemmas.List.{append_assoc, length-append, get_or_append_left, get_or_at, take_at}
use Rattle.std.proofs.lemmas.List.Elements.{All-from_recursion}
use Rattle.std.proofs.lemmas.List.Sums.{position_or_len_is}
use Rattle.text_lines.specs.Lines.{lines_from}
use Rattle.text_lines.specs.Joined.{spaced}
use Rattle.text_lines.proofs.FirstLine.{lines_from-step}
use Rattle.text_lines.proofs.Numbers.{digit_numerals}
use Rattle.pair_colours.proofs.ListLemmas.{Each-append}
use Rattle.text_lines.proofs.LineNumbers.{both, small_numbers}

-- bytes that end no line
abbrev pub IsHigh : List ℕ → Type 0
IsHigh line = AllByRecursion (λ b. 13 < b) line

-- a line with some bytes, none of which ends it
pub record IsPlain (line : List ℕ) : Type 0 where
  pub some : 0 < length line
  pub high : IsHigh line

pub digits_high : (word : List ℕ) → all_ascii_digits word ≡ true → IsHigh word
digits_high [] d = tt
digits_high (b ∷ word) d =
    let two = both (is_ascii_digit b) (all_ascii_digits word) d in
    let low = both (leb 48 b) (leb b 57) two.0 in
    (omega (arith, leb-true 48 b low.0), digits_high word two.1)

pub decimal_high : (n : ℕ) → n < 2 ^ 32 → IsHigh (decimal n)
decimal_high n h = digits_high (decimal n) (digits_decimal digit_numerals n (omega (arith, h)))

pub joined_high : (pieces : List (List ℕ)) → AllByRecursion IsHigh pieces → IsHigh (join_with_byte 32 pieces)
joined_high [] a = tt
joined_high (p ∷ []) a = a.0
joined_high (p ∷ q ∷ rest) a = Each-append (λ b. 13 < b) p (32 ∷ join_with_byte 32 (q ∷ rest)) a.0 (omega arith, joined_high (q ∷ rest) a.1)

pub joined_some : (p q : List ℕ) (rest : List (List ℕ)) → 0 < length (join_with_byte 32 (p ∷ q ∷ rest))
joined_some p q rest = omega (arith, length-append p (32 ∷ join_with_byte 32 (q ∷ rest)))

pub strip_same : (line : List ℕ) → IsPlain line → strip_carriage_return line ≡ line
strip_same line h =
    let last = All-from_recursion (λ b. 13 < b) line h.high (length line - 1) 0 (omega (arith, h.some)) in
    ap (λ b. cond b (take (length line - 1) line) line) (ne_eqb (get_or line (length line - 1) 0) 13 (λ e. omega (arith, last, e)))

-- the rest of the lines of a text with an ended line in front
pub first_text_line : (place : ℕ) (line rest : List ℕ) → IsPlain line
    → lines_from place ((line ++ codes "\n") ++ rest) ≡ record { start = place; bytes = line } ∷ lines_from (place + (length line + 1)) rest
first_text_line place line rest h =
    let text = line ++ 10 ∷ rest in
    let n = length line in
    let all = All-from_recursion (λ b. 13 < b) line h.high in
    let size = length-append line (10 ∷ rest) in
    let first : position_or_len (λ b. eqb b 10) text ≡ n = position_or_len_is (λ b. eqb b 10) text n 0 (omega (arith, size))
    (λ k b. ap (λ v. eqb v 10) (get_or_append_left line (10 ∷ rest) 0 k b) ∙ ne_eqb (get_or line k 0) 10 (λ e. let above = all k 0 b in omega (arith, e, above)))
    (λ _. eq-eqb (get_or text n 0) 10 (get_or_at line 10 rest 0 n refl)) in
    ap (lines_from place) (append_assoc line (codes "\n") rest)
    ∙ lines_from-step place text n (n + 1) line rest (sym first) (omega (arith, size)) (omega (arith, size))
    (sym (ap strip_carriage_return (take_at line (10 ∷ rest) n refl) ∙ strip_same line h)) (sym (drop-append-add line (10 ∷ rest) 1))

pub plain_lines : (place : ℕ) (lines : List (List ℕ)) → AllByRecursion IsPlain lines → map (λ part. part.bytes) (lines_from place (flat_map (λ line. line ++ codes "\n") lines)) ≡ lines
plain_lines place [] a = refl
plain_lines place (line ∷ lines) a =
    ap (map (λ part. part.bytes)) (first_text_line place line (flat_map (λ l. l ++ codes "\n") lines) a.0)
    ∙ ap (λ l. line ∷ l) (plain_lines (place + (length line + 1)) lines a.1)

-- a literal
pub high_test : (line : List ℕ) → list_all (λ b. ltb 13 b) line ≡ true → IsHigh line
high_test [] e = tt
high_test (b ∷ line) e = let two = both (ltb 13 b) (list_all (λ c. ltb 13 c) line) e in (ltb-true 13 b two.0, high_test line two.1)

pub literal : (line : List ℕ) → list_all (λ b. ltb 13 b) line ≡ true → 0 < length line → IsPlain line
literal line e h = record { some = h; high = high_test line e }

pub decimals_high : (numbers : List ℕ) → AllByRecursion (λ n. n < 2 ^ 32) numbers → AllByRecursion IsHigh (map decimal numbers)
decimals_high [] a = tt
decimals_high (n ∷ ns) a = (decimal_high n a.0, decimals_high ns a.1)

-- a row of numbers
pub row_plain : (limit : ℕ) (numbers : List ℕ) → limit < 2 ^ 32 → 1 ≤ length numbers → AllByRecursion (λ c. c ≤ limit) numbers → IsPlain (spaced numbers)
row_plain limit [] l h a = absurd (omega (arith, h))
row_plain limit (c ∷ []) l h a = record { some = decimal_nonempty c (omega (arith, a.0, l)); high = decimal_high c (omega (arith, a.0, l)) }
row_plain limit (c ∷ d ∷ ds) l h a = record {
  some = joined_some (decimal c) (decimal d) (map decimal ds);
  high = joined_high (map decimal (c ∷ d ∷ ds)) (decimals_high (c ∷ d ∷ ds) (small_numbers limit l (c ∷ d ∷ ds) a));
}

-- the line of the number of points
pub points_high : (n : ℕ) → n < 2 ^ 32 → IsHigh (codes "points " ++ decimal n)
points_high n h = Each-append (λ b. 13 < b) (codes "points ") (decimal n) (high_test (codes "points ") refl) (decimal_high n h)
