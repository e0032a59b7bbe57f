-- Lists of numbers that are written one by one.
use Rattle.std.proofs.Common.{◌≡◌, ℕ, ◌<◌, List, [], ◌∷◌, ◌++◌, length, map, cond, refl, sym, ap, ◌∙◌, arith, append_assoc}
use Rattle.std.specs.Prelude.{decimal}
use Rattle.std.specs.List.{join_with_byte}
use Rattle.std.proofs.lemmas.Bool.{ne_eqb}
use Rattle.std.proofs.lemmas.List.{length-map, map-append}
use Rattle.text_lines.specs.Joined.{joined, separator_before}

-- a place that is not the first has the separator before it
separator_before-later : (s n : ℕ) → 0 < n → separator_before s n ≡ s ∷ []
separator_before-later s n l = ap (λ b. cond b [] (s ∷ [])) (ne_eqb n 0 (λ e. omega (arith, e)))

-- one more piece
join_more : (s : ℕ) (pieces : List (List ℕ)) (piece : List ℕ)
    → join_with_byte s (pieces ++ piece ∷ []) ≡ join_with_byte s pieces ++ separator_before s (length pieces) ++ piece
join_more s [] piece = refl
join_more s (first ∷ []) piece = sym (append_assoc first (s ∷ []) piece)
join_more s (first ∷ second ∷ others) piece =
    let rest = join_with_byte s (second ∷ others) in
    let later = separator_before-later s (length (second ∷ others)) (omega arith) in
    let all = separator_before-later s (length (first ∷ second ∷ others)) (omega arith) in
    ap (λ l. first ++ (s ∷ l)) (join_more s (second ∷ others) piece ∙ ap (λ b. rest ++ b ++ piece) later)
    ∙ sym (ap (λ b. join_with_byte s (first ∷ second ∷ others) ++ b ++ piece) all ∙ simp append_assoc)

-- one more number
joined_more : (s : ℕ) (numbers : List ℕ) (number : ℕ) → joined s (numbers ++ number ∷ []) ≡ joined s numbers ++ separator_before s (length numbers) ++ decimal number
joined_more s numbers number =
    ap (join_with_byte s) (map-append decimal numbers (number ∷ [])) ∙ join_more s (map decimal numbers) (decimal number)
    ∙ ap (λ n. joined s numbers ++ separator_before s n ++ decimal number) (length-map numbers decimal)

-- one more number after a text
pub numbers_more : (s : ℕ) (numbers start old new : List ℕ) (place number : ℕ) → length numbers ≡ place → old ≡ start ++ joined s numbers
    → new ≡ old ++ separator_before s place ++ decimal number → new ≡ start ++ joined s (numbers ++ number ∷ [])
numbers_more s numbers start old new place number at before after =
    let gap = separator_before s (length numbers) in
    after
    ∙ ap (λ text. text ++ separator_before s place ++ decimal number) before
    ∙ ap (λ n. (start ++ joined s numbers) ++ separator_before s n ++ decimal number) (sym at)
    ∙ append_assoc (start ++ joined s numbers) gap (decimal number)
    ∙ append_assoc start (joined s numbers) (gap ++ decimal number)
    ∙ ap (λ text. start ++ text) (sym (append_assoc (joined s numbers) gap (decimal number)) ∙ sym (joined_more s numbers number))
