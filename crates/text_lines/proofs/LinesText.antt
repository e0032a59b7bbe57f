-- Rows that are written number by number, and texts that are written line by line.
use Rattle.std.proofs.Common.{◌≡◌, ℕ, ◌+◌, List, [], ◌∷◌, ◌++◌, map, refl, sym, ap, ◌∙◌, arith}
use Rattle.std.specs.Prelude.{codes, decimal}
use Rattle.std.specs.List.{flat_map}
use Rattle.std.proofs.lemmas.List.{append_assoc, append-nil, flat_map_more}
use Rattle.std.proofs.lemmas.List.FromFn.{map-range_with_len_more, length-map-range_with_len}
use Rattle.pair_colours.specs.Colouring.{PairColouring, points}
use Rattle.pair_colours.proofs.Counts.{points_more}
use Rattle.text_lines.specs.Joined.{joined, separator_before}
use Rattle.text_lines.specs.LinesText.{lines_text}
use Rattle.text_lines.specs.Rows.{matrix_row, matrix_lines, matrix_rows}
use Rattle.text_lines.proofs.JoinedNumbers.{numbers_more}

-- one more number on the row of the values of f
pub row_more : (s : ℕ) (f : ℕ → ℕ) (start old new : List ℕ) (y number : ℕ) → old ≡ start ++ joined s (map f (points y)) → number ≡ f y
    → new ≡ old ++ separator_before s y ++ decimal number → new ≡ start ++ joined s (map f (points (y + 1)))
row_more s f start old new y number before is after =
    numbers_more s (map f (points y)) start old new y number (length-map-range_with_len f 0 y) before after
    ∙ ap (λ numbers. start ++ joined s numbers) (ap (λ v. map f (points y) ++ v ∷ []) is ∙ sym (map-range_with_len_more f 0 y y (omega arith)))

-- one more line
pub lines_more : (f : ℕ → List ℕ) (start old new : List ℕ) (x : ℕ) → old ≡ start ++ flat_map f (points x) → new ≡ old ++ f x → new ≡ start ++ flat_map f (points (x + 1))
lines_more f start old new x before after =
    after ∙ ap (λ text. text ++ f x) before ∙ flat_map_more f start (points x) x ∙ ap (λ xs. start ++ flat_map f xs) (sym (points_more x))

-- lines after one another
pub lines_text-append : (xs ys : List (List ℕ)) → lines_text (xs ++ ys) ≡ lines_text xs ++ lines_text ys
lines_text-append [] ys = refl
lines_text-append (x ∷ xs) ys = ap (λ t. (x ++ codes "\n") ++ t) (lines_text-append xs ys) ∙ sym (append_assoc (x ++ codes "\n") (lines_text xs) (lines_text ys))

-- more lines after a text
pub text_more : (start old new : List ℕ) (lines next : List (List ℕ)) → old ≡ start ++ lines_text lines → new ≡ old ++ lines_text next → new ≡ start ++ lines_text (lines ++ next)
text_more start old new lines next before after =
    after ∙ ap (λ t. t ++ lines_text next) before ∙ append_assoc start (lines_text lines) (lines_text next) ∙ ap (λ t. start ++ t) (sym (lines_text-append lines next))

-- one line and its end
pub one_line : (old mid new line : List ℕ) → mid ≡ old ++ line → new ≡ mid ++ codes "\n" → new ≡ old ++ lines_text (line ∷ [])
one_line old mid new line a b =
    b ∙ ap (λ t. t ++ codes "\n") a ∙ append_assoc old line (codes "\n") ∙ ap (λ t. old ++ t) (sym (append-nil (line ++ codes "\n")))

-- the rows of a matrix as lines
rows_map : (C : PairColouring) (xs : List ℕ) → flat_map (λ x. matrix_row C x ++ codes "\n") xs ≡ lines_text (map (matrix_row C) xs)
rows_map C [] = refl
rows_map C (x ∷ xs) = ap (λ t. (matrix_row C x ++ codes "\n") ++ t) (rows_map C xs)

pub rows_text : (C : PairColouring) → matrix_rows C ≡ lines_text (matrix_lines C)
rows_text C = rows_map C (points C.size)
