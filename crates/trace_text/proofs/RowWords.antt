-- Lines that are cut and read word by word.
use Rattle.std.proofs.Common.{◌≡◌, ℕ, ◌+◌, ◌*◌, ◌<◌, ◌≤◌, Bool, true, false, List, [], ◌∷◌, ◌++◌, length, take, drop, map, set, Option, Some, None, sym, ap, ◌∙◌, arith}
use Rattle.std.specs.Prelude.{unwrap_or, is_some, not}
use Rattle.std.specs.Borrow.{Bor}
use Rattle.std.specs.List.{list_all}
use Rattle.std.proofs.lemmas.List.{append_assoc, take_all, take_more_set, length-map}
use Rattle.text_lines.specs.Number.{number_of}
use Rattle.pair_colours.specs.Colouring.{PairColouring, IsColouring}
use Rattle.pair_colours.specs.declared.coloured_pairs.TheConstants.{MOST_COLOUR}
use Rattle.trace_text.specs.TraceFault.{is_row_line}
use Rattle.pair_colours.proofs.SameColours.{IsColouring-set}
use Rattle.text_lines.specs.LineNumbers.{between_spaces, is_number_to, words_left, value}
use Rattle.text_lines.proofs.RowLines.{row_back}
use Rattle.text_lines.proofs.WordsLeft.{next_word, good_more, values_more, words_long, words_end}

-- the first y words of row x were read
pub record ReadsRow (line : List ℕ) (old now : PairColouring) (x y : ℕ) (words : List (List ℕ)) : Type 0 where
  pub left : words ≡ drop y (between_spaces line)
  pub enough : y ≤ length (between_spaces line)
  pub good : list_all (is_number_to MOST_COLOUR) (take y (between_spaces line)) ≡ true
  pub size : now.size ≡ old.size
  pub colouring : IsColouring now
  pub row : take (x * old.size + y) now.colours ≡ take (x * old.size) old.colours ++ map value (take y (between_spaces line))

pub row_more : (line : List ℕ) (old now new : PairColouring) (x y colour : ℕ) (words after : List (List ℕ)) (word : List ℕ) → ReadsRow line old now x y words → words ≡ word ∷ after
    → is_number_to MOST_COLOUR word ≡ true → number_of word ≡ Some colour → x < old.size → y < old.size → new.size ≡ now.size → new.colours ≡ set now.colours (x * now.size + y) colour
    → x * old.size + y < length now.colours → ReadsRow line old new x (y + 1) after
row_more line old now new x y colour words after word r e good number hx hy size changed inside =
    let ws = between_spaces line in
    let n = next_word ws y words after word r.left e in
    let at : x * old.size + (y + 1) ≡ (x * old.size + y) + 1 = omega arith in
    let place : x * now.size + y ≡ x * old.size + y = ap (λ m. x * m + y) r.size in
    record {
      left = n.behind;
      enough = omega (arith, n.inside);
      good = good_more MOST_COLOUR y ws after word n r.good good;
      size = size ∙ r.size;
      colouring = IsColouring-set now new (x * now.size + y) colour r.colouring size changed;
      row = ap (λ k. take k new.colours) at
          ∙ ap (take ((x * old.size + y) + 1)) (changed ∙ ap (λ k. set now.colours k colour) place)
          ∙ take_more_set now.colours (x * old.size + y) colour inside
          ∙ ap (λ t. t ++ colour ∷ []) r.row
          ∙ append_assoc (take (x * old.size) old.colours) (map value (take y ws)) (colour ∷ [])
          ∙ ap (λ t. take (x * old.size) old.colours ++ t)
          (ap (λ c. map value (take y ws) ++ c ∷ []) (sym (ap (λ o. unwrap_or o 0) number)) ∙ sym (values_more y ws after word n));
    }

-- what is left after y words decides whether the line is a row
pub row_result : (line : List ℕ) (n y : ℕ) (rest : Option (Bor (List ℕ))) (r : Bool) → is_some rest ≡ not r → words_left rest ≡ drop y (between_spaces line) → y ≡ n → y ≤ length (between_spaces line)
    → list_all (is_number_to MOST_COLOUR) (take y (between_spaces line)) ≡ true → r ≡ is_row_line n line
row_result line n y None true s l e h good = sym (words_end MOST_COLOUR n y (between_spaces line) l e h good)
row_result line n y None false s l e h good = absurd cc
row_result line n y (Some rest) true s l e h good = absurd cc
row_result line n y (Some rest) false s l e h good = sym (words_long MOST_COLOUR n y (between_spaces line) rest.now l e)

-- a whole row
pub row_whole : (line : List ℕ) (n y : ℕ) (old now : PairColouring) (x : ℕ) → old.size ≡ n → y ≡ n → is_row_line n line ≡ true
    → take (x * old.size + y) now.colours ≡ take (x * old.size) old.colours ++ map value (take y (between_spaces line))
    → take (x * old.size + old.size) now.colours ≡ take (x * old.size) old.colours ++ map value (between_spaces line)
row_whole line n y old now x size e h row =
    let ws = between_spaces line in
    let len : length ws ≡ n = sym (length-map ws value) ∙ (row_back MOST_COLOUR n line h).count in
    ap (λ k. take (x * old.size + k) now.colours) (size ∙ sym e) ∙ row ∙ ap (λ t. take (x * old.size) old.colours ++ map value t) (take_all y ws (omega (arith, len, e)))
