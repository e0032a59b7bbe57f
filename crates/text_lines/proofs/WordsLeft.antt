-- The words of a line, read one after the other.
use Rattle.std.proofs.Common.{◌≡◌, ◌≢◌, ℕ, ◌+◌, ◌<◌, ◌≤◌, ◌&&◌, true, false, eqb, List, [], ◌∷◌, ◌++◌, length, take, drop, map, get_or, sym, ap, ◌∙◌, arith}
use Rattle.std.specs.List.{list_all}
use Rattle.std.proofs.lemmas.Bool.{ne_eqb, eq-eqb, and_from}
use Rattle.std.proofs.lemmas.List.{take_all, take_more, length-drop, drop_more, map-append}
use Rattle.std.proofs.lemmas.List.Folds.{list_all_at, list_all_more}
use Rattle.std.proofs.lemmas.List.Splits.{length-slice_split}
use Rattle.text_lines.specs.LineNumbers.{are_numbers, is_number_to, between_spaces}
use Rattle.text_lines.specs.LineNumbers.{value}
use Rattle.text_lines.proofs.Numbers.{and-false}

-- the next of the words is `word`, and `after` are those that follow it
pub record NextWord (ws : List (List ℕ)) (y : ℕ) (word : List ℕ) (after : List (List ℕ)) : Type 0 where
  pub inside : y < length ws
  pub is : get_or ws y [] ≡ word
  pub behind : after ≡ drop (y + 1) ws
  pub longer : take (y + 1) ws ≡ take y ws ++ word ∷ []

pub next_word : (ws : List (List ℕ)) (y : ℕ) (words after : List (List ℕ)) (word : List ℕ) → words ≡ drop y ws → words ≡ word ∷ after → NextWord ws y word after
next_word ws y words after word l e =
    let inside : y < length ws = omega (arith, length-drop y ws, ap length (sym l ∙ e)) in
    let both : word ∷ after ≡ get_or ws y [] ∷ drop (y + 1) ws = sym e ∙ l ∙ drop_more ws y [] inside in
    let is : get_or ws y [] ≡ word = sym (ap (λ m. get_or m 0 []) both) in
    record { inside = inside; is = is; behind = ap (drop 1) both; longer = take_more ws y [] inside ∙ ap (λ w. take y ws ++ w ∷ []) is }

-- one more number
pub good_more : (limit y : ℕ) (ws after : List (List ℕ)) (word : List ℕ) → NextWord ws y word after → list_all (is_number_to limit) (take y ws) ≡ true
    → is_number_to limit word ≡ true → list_all (is_number_to limit) (take (y + 1) ws) ≡ true
good_more limit y ws after word n all good =
    list_all_more (is_number_to limit) ws y [] n.inside
    ∙ and_from (list_all (is_number_to limit) (take y ws)) (is_number_to limit (get_or ws y [])) all (ap (is_number_to limit) n.is ∙ good)

pub values_more : (y : ℕ) (ws after : List (List ℕ)) (word : List ℕ) → NextWord ws y word after → map value (take (y + 1) ws) ≡ map value (take y ws) ++ value word ∷ []
values_more y ws after word n = ap (map value) n.longer ∙ map-append value (take y ws) (word ∷ [])

other_count : (limit n : ℕ) (ws : List (List ℕ)) → length ws ≢ n → are_numbers limit n ws ≡ false
other_count limit n ws h = ap (λ b. b && list_all (is_number_to limit) ws) (ne_eqb (length ws) n h)

-- a word that is no number
pub words_bad : (limit n y : ℕ) (ws words after : List (List ℕ)) (word : List ℕ) → words ≡ drop y ws → words ≡ word ∷ after → is_number_to limit word ≡ false → are_numbers limit n ws ≡ false
words_bad limit n y ws words after word l e bad =
    let w = next_word ws y words after word l e in
    ap (λ b. eqb (length ws) n && b) (list_all_at (is_number_to limit) ws y [] w.inside (ap (is_number_to limit) w.is ∙ bad)) ∙ and-false (eqb (length ws) n)

-- too few words, and too many
pub words_few : (limit n y : ℕ) (ws : List (List ℕ)) → [] ≡ drop y ws → y < n → are_numbers limit n ws ≡ false
words_few limit n y ws l h = other_count limit n ws (λ e. omega (arith, e, h, length-drop y ws, ap length l))

pub words_long : (limit n y : ℕ) (ws : List (List ℕ)) (rest : List ℕ) → between_spaces rest ≡ drop y ws → y ≡ n → are_numbers limit n ws ≡ false
words_long limit n y ws rest l e = other_count limit n ws (λ f. omega (arith, f, e, length-drop y ws, ap length l, length-slice_split (λ b. eqb b 32) rest))

-- as many as there have to be
pub words_len : (n y : ℕ) (ws : List (List ℕ)) → [] ≡ drop y ws → y ≡ n → y ≤ length ws → length ws ≡ n
words_len n y ws l e h = omega (arith, length-drop y ws, ap length l, e, h)

pub words_end : (limit n y : ℕ) (ws : List (List ℕ)) → [] ≡ drop y ws → y ≡ n → y ≤ length ws → list_all (is_number_to limit) (take y ws) ≡ true → are_numbers limit n ws ≡ true
words_end limit n y ws l e h good =
    let len = words_len n y ws l e h in
    and_from (eqb (length ws) n) (list_all (is_number_to limit) ws) (eq-eqb (length ws) n len)
    (ap (list_all (is_number_to limit)) (sym (take_all y ws (omega (arith, len, e)))) ∙ good)
