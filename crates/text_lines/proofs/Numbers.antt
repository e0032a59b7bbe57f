-- The number form as a relation and as a function.
use Rattle.std.proofs.Common.{◌≡◌, ℕ, zero, suc, ◌<◌, ◌^◌, Bool, true, false, cond, ltb, eqb, List, length, get_or, Option, Some, None, refl, sym, ap, subst, ◌∙◌, arith, ◌&&◌, inl, inr}
use Rattle.std.specs.Prelude.{not, decimal, MatchOption}
use Rattle.std.specs.Str.{all_ascii_digits}
use Rattle.std.specs.Str.Parse.{digits_value}
use Rattle.std.proofs.lemmas.Bool.{and_from, lt-ltb, ltb-true, ne_eqb, eq-eqb, cases_lt, false≢true}
use Rattle.std.proofs.lemmas.Str.Parse.{numerals_by_value, tells_all_ascii_digits, IsNumeralModel}
use Rattle.std.proofs.lemmas.Fmt.{decimal-digits_value, digits_decimal, digits_value-decimal, decimal_nonempty, decimal_digit, first_decimal, decimal_injective}
use Rattle.text_lines.specs.Number.{IsNumberForm, has_leading_zero, number_of}

-- texts of digits are numerals, and the digits tell the value
pub digit_numerals : IsNumeralModel (λ ds. all_ascii_digits ds ≡ true) (digits_value 10)
digit_numerals = numerals_by_value (λ ds. all_ascii_digits ds ≡ true) tells_all_ascii_digits

-- a word is one number at most
pub IsNumberForm-unique : (word : List ℕ) (m n : ℕ) → IsNumberForm word m → IsNumberForm word n → m ≡ n
IsNumberForm-unique word m n p q = decimal_injective m n (omega (arith, p.limit)) (omega (arith, q.limit)) (sym p.digits ∙ q.digits)

pub both : (a b : Bool) → (a && b) ≡ true → (a ≡ true) × (b ≡ true)
both true true h = (refl, refl)
both true false h = absurd cc
both false b h = absurd cc

pub and-false : (a : Bool) → (a && false) ≡ false
and-false true = refl
and-false false = refl

-- the decimal digits of a number have no leading zero
pub has_leading_zero-decimal : (n : ℕ) → n < 2 ^ 32 → has_leading_zero (decimal n) ≡ false
has_leading_zero-decimal zero h = rw (decimal_digit 0 (omega arith)) refl
has_leading_zero-decimal (suc n) h =
    let first = first_decimal (suc n) (omega arith) (omega (arith, h)) in
    let apart : eqb (get_or (decimal (suc n)) 0 0) 48 ≡ false = ne_eqb (get_or (decimal (suc n)) 0 0) 48 (λ e. omega (arith, first)) in
    ap (λ b. ltb 1 (length (decimal (suc n))) && b) apart ∙ and-false (ltb 1 (length (decimal (suc n))))

-- a word in the number form is what the function reads
pub number_of-form : (word : List ℕ) (n : ℕ) → IsNumberForm word n → number_of word ≡ Some n
number_of-form word n form = rw form.digits (
    let text = decimal n in
    let long : n < 2 ^ 64 = omega (arith, form.limit) in
    let value : digits_value 10 text ≡ n = digits_value-decimal digit_numerals n long in
    let some : ltb 0 (length text) ≡ true = lt-ltb 0 (length text) (decimal_nonempty n long) in
    let digits : all_ascii_digits text ≡ true = digits_decimal digit_numerals n long in
    let plain : not (has_leading_zero text) ≡ true = ap not (has_leading_zero-decimal n form.limit) in
    let small : ltb (digits_value 10 text) (2 ^ 32) ≡ true = lt-ltb (digits_value 10 text) (2 ^ 32) (rw value form.limit) in
    ap (λ b. cond b (Some (digits_value 10 text)) None) (and_from (ltb 0 (length text) && all_ascii_digits text && not (has_leading_zero text)) (ltb (digits_value 10 text) (2 ^ 32))
    (and_from (ltb 0 (length text) && all_ascii_digits text) (not (has_leading_zero text)) (and_from (ltb 0 (length text)) (all_ascii_digits text) some digits) plain) small)
    ∙ ap Some value)

-- digits without a leading zero are in the number form, where their value is below 2^32
pub IsNumberForm-from_digits : (word : List ℕ) → 0 < length word → all_ascii_digits word ≡ true → has_leading_zero word ≡ false → digits_value 10 word < 2 ^ 32 → IsNumberForm word (digits_value 10 word)
IsNumberForm-from_digits word some digits plain small = record {
  digits = sym (decimal-digits_value digit_numerals word digits some (λ zero_first. elim (cases_lt 1 (length word)) [
    | inl more ↦ absurd (false≢true (sym plain ∙ and_from (ltb 1 (length word)) (eqb (get_or word 0 0) 48) (lt-ltb 1 (length word) more) (eq-eqb (get_or word 0 0) 48 zero_first)))
    | inr one ↦ omega arith
  ]) (omega (arith, small)));
  limit = small;
}

some_from : (t : Bool) (v n : ℕ) → cond t (Some v) None ≡ Some n → (t ≡ true) × (v ≡ n)
some_from true v n e = (refl, cc)
some_from false v n e = absurd cc

not_not : (b : Bool) → not b ≡ true → b ≡ false
not_not true e = absurd cc
not_not false e = refl

-- what the function reads is in the number form
pub form-number_of : (word : List ℕ) (n : ℕ) → number_of word ≡ Some n → IsNumberForm word n
form-number_of word n e =
    let found = some_from (ltb 0 (length word) && all_ascii_digits word && not (has_leading_zero word) && ltb (digits_value 10 word) (2 ^ 32)) (digits_value 10 word) n e in
    let last = both (ltb 0 (length word) && all_ascii_digits word && not (has_leading_zero word)) (ltb (digits_value 10 word) (2 ^ 32)) found.0 in
    let third = both (ltb 0 (length word) && all_ascii_digits word) (not (has_leading_zero word)) last.0 in
    let second = both (ltb 0 (length word)) (all_ascii_digits word) third.0 in
    subst (IsNumberForm word) found.1 (IsNumberForm-from_digits word (ltb-true 0 (length word) second.0) second.1 (not_not (has_leading_zero word) third.1) (ltb-true (digits_value 10 word) (2 ^ 32) last.1))

pub is_number_of : (word : List ℕ) (r : Option ℕ) → MatchOption r ((n : ℕ) → ¬ IsNumberForm word n) (λ n. IsNumberForm word n) → r ≡ number_of word
is_number_of word None h = elim (number_of word) as (λ o. number_of word ≡ o → None ≡ o) [ None ↦ λ e. refl | Some n ↦ λ e. absurd (h n (form-number_of word n e)) ] refl
is_number_of word (Some n) h = sym (number_of-form word n h)
