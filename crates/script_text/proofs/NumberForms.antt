-- Words in the number form, and the numbers that they write.
use Rattle.std.proofs.Common.{◌≡◌, ℕ, suc, true, List, [], ◌∷◌, length, map, Option, Some, None, is_some, unwrap_or, refl, ap, ◌∙◌}
use Rattle.std.specs.List.{AllZip, list_all}
use Rattle.std.proofs.lemmas.Bool.{and_parts, and_from}
use Rattle.text_lines.specs.Number.{IsNumberForm, number_of}
use Rattle.text_lines.proofs.Numbers.{number_of-form, form-number_of}
use Rattle.script_text.specs.LineFaults.{is_number}

-- the number that a word in the number form writes
abbrev pub value : List ℕ → ℕ
value word = unwrap_or (number_of word) 0

pub value-form : (word : List ℕ) (n : ℕ) → IsNumberForm word n → value word ≡ n
value-form word n h = ap (λ o. unwrap_or o 0) (number_of-form word n h)

pub is_number-form : (word : List ℕ) (n : ℕ) → IsNumberForm word n → is_number word ≡ true
is_number-form word n h = ap is_some (number_of-form word n h)

some_value : (o : Option ℕ) → is_some o ≡ true → o ≡ Some (unwrap_or o 0)
some_value None e = cc
some_value (Some n) e = refl

-- a word that is a number is its value
pub number_of-value : (word : List ℕ) → is_number word ≡ true → number_of word ≡ Some (value word)
number_of-value word h = some_value (number_of word) h

pub form-is_number : (word : List ℕ) → is_number word ≡ true → IsNumberForm word (value word)
form-is_number word h = form-number_of word (value word) (number_of-value word h)

-- words that are numbers, one by one
pub forms_all : (words : List (List ℕ)) (numbers : List ℕ) → AllZip IsNumberForm words numbers → list_all is_number words ≡ true
forms_all [] numbers h = refl
forms_all (word ∷ words) [] h = absurd h
forms_all (word ∷ words) (n ∷ numbers) h = and_from _ _ (is_number-form word n h.0) (forms_all words numbers h.1)

pub forms_values : (words : List (List ℕ)) (numbers : List ℕ) → AllZip IsNumberForm words numbers → map value words ≡ numbers
forms_values [] [] h = refl
forms_values [] (n ∷ numbers) h = absurd h
forms_values (word ∷ words) [] h = absurd h
forms_values (word ∷ words) (n ∷ numbers) h =
    ap (λ v. v ∷ map value words) (value-form word n h.0) ∙ ap (λ vs. n ∷ vs) (forms_values words numbers h.1)

pub forms_length : (words : List (List ℕ)) (numbers : List ℕ) → AllZip IsNumberForm words numbers → length words ≡ length numbers
forms_length [] [] h = refl
forms_length [] (n ∷ numbers) h = absurd h
forms_length (word ∷ words) [] h = absurd h
forms_length (word ∷ words) (n ∷ numbers) h = ap (λ k. suc k) (forms_length words numbers h.1)

pub all_forms : (words : List (List ℕ)) → list_all is_number words ≡ true → AllZip IsNumberForm words (map value words)
all_forms [] h = tt
all_forms (word ∷ words) h =
    let parts = and_parts (is_number word) (list_all is_number words) h in
    (form-is_number word parts.0, all_forms words parts.1)
