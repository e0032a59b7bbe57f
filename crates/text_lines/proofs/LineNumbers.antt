-- Numbers between single spaces.
use Rattle.std.proofs.Common.{◌≡◌, ◌&&◌, ℕ, ◌<◌, ◌≤◌, ◌^◌, true, false, leb, eqb, List, [], ◌∷◌, length, map, Option, Some, None, refl, ap, ◌∙◌, arith}
use Rattle.std.specs.Prelude.{decimal, is_some, unwrap_or}
use Rattle.std.specs.List.{AllByRecursion, join_with_byte, list_all}
use Rattle.std.specs.Str.{all_ascii_digits}
use Rattle.std.specs.Char.{is_ascii_digit}
use Rattle.std.proofs.lemmas.Bool.{and_from, le-leb, leb-true, ne_eqb, eq-eqb, eqb-true}
use Rattle.std.proofs.lemmas.Fmt.{digits_decimal}
use Rattle.std.proofs.lemmas.List.{length-map}
use Rattle.std.proofs.lemmas.List.Elements.{All-from_recursion}
use Rattle.std.proofs.lemmas.List.Splits.{slice_split_none, slice_split_at, join_with_byte-slice_split}
use Rattle.text_lines.specs.Number.{number_of}
use Rattle.text_lines.specs.Joined.{spaced}
use Rattle.text_lines.proofs.Numbers.{number_of-form, form-number_of, digit_numerals}
pub use Rattle.text_lines.proofs.Numbers.{both}
use Rattle.text_lines.specs.LineNumbers.{between_spaces, is_number_to, are_numbers, value}

-- a word without spaces
abbrev pub HasNoSpace : List ℕ → Type 0
HasNoSpace word = AllByRecursion (λ b. eqb b 32 ≡ false) word

digit_no_space : (b : ℕ) → is_ascii_digit b ≡ true → eqb b 32 ≡ false
digit_no_space b d = let low = both (leb 48 b) (leb b 57) d in ne_eqb b 32 (λ e. omega (arith, leb-true 48 b low.0, e))

digits_no_space : (word : List ℕ) → all_ascii_digits word ≡ true → HasNoSpace word
digits_no_space [] d = tt
digits_no_space (b ∷ word) d = let two = both (is_ascii_digit b) (all_ascii_digits word) d in (digit_no_space b two.0, digits_no_space word two.1)

pub decimal_no_space : (n : ℕ) → n < 2 ^ 64 → HasNoSpace (decimal n)
decimal_no_space n h = digits_no_space (decimal n) (digits_decimal digit_numerals n h)

-- words without spaces are what stands between the spaces of the joined line
pub split_join : (word : List ℕ) (words : List (List ℕ)) → HasNoSpace word → AllByRecursion HasNoSpace words
    → between_spaces (join_with_byte 32 (word ∷ words)) ≡ word ∷ words
split_join word [] h a = slice_split_none (λ b. eqb b 32) word (All-from_recursion (λ b. eqb b 32 ≡ false) word h)
split_join word (next ∷ words) h a =
    slice_split_at (λ b. eqb b 32) word 32 (join_with_byte 32 (next ∷ words)) (All-from_recursion (λ b. eqb b 32 ≡ false) word h) refl
    ∙ ap (λ l. word ∷ l) (split_join next words a.0 a.1)

pub join_split : (line : List ℕ) → join_with_byte 32 (between_spaces line) ≡ line
join_split line = join_with_byte-slice_split 32 line

pub number_of-decimal : (n : ℕ) → n < 2 ^ 32 → number_of (decimal n) ≡ Some n
number_of-decimal n h = number_of-form (decimal n) n (record { digits = refl; limit = h })

pub value-decimal : (n : ℕ) → n < 2 ^ 32 → value (decimal n) ≡ n
value-decimal n h = ap (λ o. unwrap_or o 0) (number_of-decimal n h)

pub is_number_to-decimal : (limit n : ℕ) → n ≤ limit → n < 2 ^ 32 → is_number_to limit (decimal n) ≡ true
is_number_to-decimal limit n h small =
    ap (λ o. is_some o && leb (unwrap_or o 0) limit) (number_of-decimal n small) ∙ le-leb n limit h

pub some_value : (o : Option ℕ) → is_some o ≡ true → o ≡ Some (unwrap_or o 0)
some_value None h = absurd cc
some_value (Some n) h = refl

-- the word is the number, which is within the limit
pub record WritesTo (limit : ℕ) (word : List ℕ) (n : ℕ) : Type 0 where
  pub spelled : word ≡ decimal n
  pub small : n ≤ limit

pub writes_value : (limit : ℕ) (word : List ℕ) → is_number_to limit word ≡ true → WritesTo limit word (value word)
writes_value limit word h =
    let two = both (is_some (number_of word)) (leb (value word) limit) h in
    record { spelled = (form-number_of word (value word) (some_value (number_of word) two.0)).digits; small = leb-true (value word) limit two.1 }

-- numbers and words
pub decimals_no_space : (numbers : List ℕ) → AllByRecursion (λ n. n < 2 ^ 32) numbers → AllByRecursion HasNoSpace (map decimal numbers)
decimals_no_space [] a = tt
decimals_no_space (n ∷ ns) a = (decimal_no_space n (omega (arith, a.0)), decimals_no_space ns a.1)

pub all_numbers : (limit : ℕ) → limit < 2 ^ 32 → (numbers : List ℕ) → AllByRecursion (λ n. n ≤ limit) numbers → list_all (is_number_to limit) (map decimal numbers) ≡ true
all_numbers limit l [] a = refl
all_numbers limit l (n ∷ ns) a =
    and_from (is_number_to limit (decimal n)) (list_all (is_number_to limit) (map decimal ns)) (is_number_to-decimal limit n a.0 (omega (arith, a.0, l))) (all_numbers limit l ns a.1)

pub are_numbers-decimal : (limit n : ℕ) (numbers : List ℕ) → limit < 2 ^ 32 → length numbers ≡ n → AllByRecursion (λ n. n ≤ limit) numbers → are_numbers limit n (map decimal numbers) ≡ true
are_numbers-decimal limit n numbers l e a =
    and_from (eqb (length (map decimal numbers)) n) (list_all (is_number_to limit) (map decimal numbers)) (eq-eqb (length (map decimal numbers)) n (length-map numbers decimal ∙ e)) (all_numbers limit l numbers a)

pub values-decimal : (limit : ℕ) → limit < 2 ^ 32 → (numbers : List ℕ) → AllByRecursion (λ n. n ≤ limit) numbers → map value (map decimal numbers) ≡ numbers
values-decimal limit l [] a = refl
values-decimal limit l (n ∷ ns) a = λ i. value-decimal n (omega (arith, a.0, l)) i ∷ values-decimal limit l ns a.1 i

-- the words are n numbers, each within the limit
pub record WriteTo (limit n : ℕ) (words : List (List ℕ)) (numbers : List ℕ) : Type 0 where
  pub count : length numbers ≡ n
  pub spelled : words ≡ map decimal numbers
  pub small : AllByRecursion (λ n. n ≤ limit) numbers

words_values : (limit : ℕ) (words : List (List ℕ)) → list_all (is_number_to limit) words ≡ true → (words ≡ map decimal (map value words)) × AllByRecursion (λ n. n ≤ limit) (map value words)
words_values limit [] h = (refl, tt)
words_values limit (word ∷ words) h =
    let two = both (is_number_to limit word) (list_all (is_number_to limit) words) h in
    let one = writes_value limit word two.0 in
    let rest = words_values limit words two.1 in
    (λ i. one.spelled i ∷ rest.0 i, (one.small, rest.1))

pub write_values : (limit n : ℕ) (words : List (List ℕ)) → are_numbers limit n words ≡ true → WriteTo limit n words (map value words)
write_values limit n words h =
    let two = both (eqb (length words) n) (list_all (is_number_to limit) words) h in
    let all = words_values limit words two.1 in
    record { count = length-map words value ∙ eqb-true (length words) n two.0; spelled = all.0; small = all.1 }

pub small_numbers : (limit : ℕ) → limit < 2 ^ 32 → (numbers : List ℕ) → AllByRecursion (λ n. n ≤ limit) numbers → AllByRecursion (λ n. n < 2 ^ 32) numbers
small_numbers limit l [] a = tt
small_numbers limit l (n ∷ ns) a = (omega (arith, a.0, l), small_numbers limit l ns a.1)

pub between_spaces-spaced : (n : ℕ) (ns : List ℕ) → AllByRecursion (λ n. n < 2 ^ 32) (n ∷ ns) → between_spaces (spaced (n ∷ ns)) ≡ map decimal (n ∷ ns)
between_spaces-spaced n ns a = let all = decimals_no_space (n ∷ ns) a in split_join (decimal n) (map decimal ns) all.0 all.1
