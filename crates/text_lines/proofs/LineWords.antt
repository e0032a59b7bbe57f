-- Lines that are cut and read word by word.
use Rattle.std.proofs.Common.{◌≡◌, ℕ, zero, suc, ◌+◌, ◌-◌, ◌<◌, ◌≤◌, min, Bool, true, false, eqb, List, [], ◌∷◌, ◌++◌, length, take, drop, map, set, Option, Some, None, refl, sym, ap, subst, ◌∙◌, arith}
use Rattle.std.specs.Prelude.{unwrap_or, is_some, not}
use Rattle.std.specs.Borrow.{Bor}
use Rattle.std.specs.List.{slice_split, position_or_len, list_all}
use Rattle.std.proofs.lemmas.List.{take_all, take_more_set, length-drop, length-set, length-map, drop-drop}
use Rattle.std.proofs.lemmas.List.Splits.{slice_split_first}
use Rattle.text_lines.specs.Lines.{lines_from}
use Rattle.text_lines.specs.Number.{number_of}
use Rattle.text_lines.specs.LineNumbers.{between_spaces, is_number_to, are_numbers, value, words_left}
use Rattle.text_lines.proofs.FirstLine.{lines_from-first}
use Rattle.text_lines.proofs.FirstPlace.{position_or_len-le-length, slice_split_whole}
use Rattle.text_lines.proofs.LineNumbers.{write_values}
use Rattle.text_lines.proofs.WordsLeft.{next_word, good_more, values_more, words_long, words_end}

-- a text has no more lines than bytes
lines_len : (n place : ℕ) (text : List ℕ) → length text ≤ n → length (lines_from place text) ≤ length text
lines_len n place [] h = omega arith
lines_len zero place (b ∷ text) h = absurd (omega (arith, h))
lines_len (suc n) place (b ∷ text) h =
    let whole = b ∷ text in
    let len = position_or_len (λ x. eqb x 10) whole in
    let m = min (length whole) (len + 1) in
    let rest = length-drop m whole in
    let rec = lines_len n (place + m) (drop m whole) (omega (arith, h, rest)) in
    omega (arith, ap length (lines_from-first place whole len m refl refl (omega arith)), rec, rest)

pub few_lines : (place : ℕ) (text : List ℕ) → length (lines_from place text) ≤ length text
few_lines place text = lines_len (length text) place text (omega arith)

-- a byte between words
abbrev is_space : ℕ → Bool
is_space b = eqb b 32

pub cut_last : (line word rest : List ℕ) (n : ℕ) → n ≡ position_or_len is_space line → word ≡ take n line → rest ≡ drop n line → length rest < 1
    → between_spaces line ≡ word ∷ []
cut_last line word rest n e w r h =
    let low = position_or_len-le-length is_space line in
    let size = length-drop n line in
    let all : n ≡ length line = omega (arith, low, e, size, ap length r, h) in
    slice_split_whole is_space line (sym e ∙ all) ∙ ap (λ l. l ∷ []) (sym (w ∙ take_all n line (omega (arith, all))))

pub cut_more : (line word rest after : List ℕ) (n : ℕ) → n ≡ position_or_len is_space line → word ≡ take n line → rest ≡ drop n line
    → 1 ≤ length rest → after ≡ take (length rest - 1) (drop 1 rest)
    → between_spaces line ≡ word ∷ between_spaces after
cut_more line word rest after n e w r h a =
    let size = length-drop n line in
    let inside : position_or_len is_space line < length line = omega (arith, e, size, ap length r, h) in
    let behind : after ≡ drop (n + 1) line = a ∙ take_all (length rest - 1) (drop 1 rest) (omega (arith, length-drop 1 rest)) ∙ ap (drop 1) r ∙ drop-drop 1 n line in
    subst (λ (k : ℕ). slice_split is_space line ≡ take k line ∷ slice_split is_space (drop (k + 1) line)) (sym e) (slice_split_first is_space line 0 inside)
    ∙ (λ i. sym w i ∷ slice_split is_space (sym behind i))

-- the first y of the words were read
pub record FillsTo (limit n : ℕ) (ws : List (List ℕ)) (y : ℕ) (numbers : List ℕ) (words : List (List ℕ)) : Type 0 where
  pub left : words ≡ drop y ws
  pub enough : y ≤ length ws
  pub good : list_all (is_number_to limit) (take y ws) ≡ true
  pub values : take y numbers ≡ map value (take y ws)
  pub room : n ≤ length numbers

pub fills_more : (limit n : ℕ) (ws : List (List ℕ)) (y number : ℕ) (numbers more : List ℕ) (words after : List (List ℕ)) (word : List ℕ)
    → FillsTo limit n ws y numbers words → y < n → words ≡ word ∷ after
    → is_number_to limit word ≡ true → number_of word ≡ Some number → more ≡ set numbers y number → FillsTo limit n ws (y + 1) more after
fills_more limit n ws y number numbers more words after word r h e good is written =
    let w = next_word ws y words after word r.left e in
    record {
      left = w.behind;
      enough = omega (arith, w.inside);
      good = good_more limit y ws after word w r.good good;
      values = ap (take (y + 1)) written ∙ take_more_set numbers y number (omega (arith, h, r.room)) ∙ ap (λ t. t ++ number ∷ []) r.values
          ∙ ap (λ c. map value (take y ws) ++ c ∷ []) (sym (ap (λ o. unwrap_or o 0) is)) ∙ sym (values_more y ws after word w);
      room = omega (arith, r.room, ap length written ∙ length-set numbers y number);
    }

-- what is left after so many words decides whether they are so many numbers
pub fills_result : (limit n : ℕ) (ws : List (List ℕ)) (y : ℕ) (numbers : List ℕ) (rest : Option (Bor (List ℕ))) (r : Bool) → is_some rest ≡ not r
    → FillsTo limit n ws y numbers (words_left rest) → y ≡ n
    → r ≡ are_numbers limit n ws
fills_result limit n ws y numbers None true s f e = sym (words_end limit n y ws f.left e f.enough f.good)
fills_result limit n ws y numbers None false s f e = absurd cc
fills_result limit n ws y numbers (Some rest) true s f e = absurd cc
fills_result limit n ws y numbers (Some rest) false s f e = sym (words_long limit n y ws rest.now f.left e)

-- and then all of them were read
pub fills_values : (limit n : ℕ) (ws : List (List ℕ)) (y : ℕ) (numbers : List ℕ) (words : List (List ℕ)) → FillsTo limit n ws y numbers words → y ≡ n
    → are_numbers limit n ws ≡ true → take n numbers ≡ map value ws
fills_values limit n ws y numbers words f e h =
    let len : length ws ≡ n = sym (length-map ws value) ∙ (write_values limit n ws h).count in
    ap (λ k. take k numbers) (sym e) ∙ f.values ∙ ap (map value) (take_all y ws (omega (arith, len, e)))
