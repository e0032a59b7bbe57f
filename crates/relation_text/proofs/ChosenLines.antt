-- The line on which a relation begins, and the lines after it.
use Rattle.std.proofs.Common.{◌≡◌, ℕ, suc, ◌+◌, ◌-◌, ◌<◌, ◌≤◌, List, [], ◌∷◌, length, drop, refl, sym, ap, ◌∙◌, arith, length-drop}
use Rattle.std.specs.Prelude.{All}
use Rattle.std.proofs.lemmas.List.{drop_all, drop-drop}
use Rattle.std.proofs.lemmas.List.Elements.{All-head, All-drop, All-same, All-weaker, All-rest}
use Rattle.text_lines.specs.Part.{Part}
use Rattle.text_lines.specs.Lines.{lines_of}
use Rattle.text_lines.proofs.Within.{IsBetween, lines_of-within}
use Rattle.relation_text.specs.Lines.{header_len, part_after, first_line_after, lines_at, end_of}

length-first_line_after : (k : ℕ) (lines : List Part) → length (first_line_after k lines) ≡ length lines
length-first_line_after k [] = refl
length-first_line_after k (line ∷ lines) = refl

drop-first_line_after : (k n : ℕ) (lines : List Part) → drop (suc n) (first_line_after k lines) ≡ drop (suc n) lines
drop-first_line_after k n [] = refl
drop-first_line_after k n (line ∷ lines) = refl

-- a text with fewer lines
pub no_line : (text : List ℕ) (line k : ℕ) → 1 ≤ k → k ≤ line → drop (k - 1) (lines_of text) ≡ [] → lines_at text line ≡ []
no_line text line k low high e =
    drop_all (line - 1) (first_line_after (header_len text) (lines_of text))
    (omega (arith, ap length e, length-drop (k - 1) (lines_of text), length-first_line_after (header_len text) (lines_of text)))

-- the first line loses its header, and every other line stays
pub first_line : (text : List ℕ) (chosen : Part) (rest : List Part) → lines_of text ≡ chosen ∷ rest → lines_at text 1 ≡ part_after (header_len text) chosen ∷ rest
first_line text chosen rest e = ap (first_line_after (header_len text)) e

pub later_line : (text : List ℕ) (line : ℕ) (chosen : Part) (rest : List Part) → 1 < line → drop (line - 1) (lines_of text) ≡ chosen ∷ rest → lines_at text line ≡ chosen ∷ rest
later_line text line chosen rest h e =
    let next : line - 1 ≡ suc (line - 2) = omega arith in
    ap (λ n. drop n (first_line_after (header_len text) (lines_of text))) next ∙ drop-first_line_after (header_len text) (line - 2) (lines_of text) ∙ ap (λ n. drop n (lines_of text)) (sym next) ∙ e

-- each line of a text ends within it
pub all_within : (text : List ℕ) → All (λ part. end_of part ≤ length text) (lines_of text)
all_within text = All-weaker (IsBetween 0 (length text)) (λ part. end_of part ≤ length text) (λ part at. at.last) (lines_of text) (lines_of-within text)

-- the next line of those that are left
pub record HasLine (text : List ℕ) (n : ℕ) (line : Part) (rest : List Part) : Type 0 where
  pub left : drop n (lines_of text) ≡ line ∷ rest
  pub after : rest ≡ drop (n + 1) (lines_of text)
  pub within : end_of line ≤ length text
  pub rest_within : All (λ part. end_of part ≤ length text) rest

pub has_line : (text : List ℕ) (n : ℕ) (left rest : List Part) (line : Part) → left ≡ drop n (lines_of text) → left ≡ line ∷ rest → HasLine text n line rest
has_line text n left rest line e f =
    let all = All-drop (λ part. end_of part ≤ length text) n (lines_of text) (all_within text) in
    let there : drop n (lines_of text) ≡ line ∷ rest = sym e ∙ f in
    record {
      left = there;
      after = ap (drop 1) (sym there) ∙ drop-drop 1 n (lines_of text);
      within = All-head (λ part. end_of part ≤ length text) line rest (All-same (λ part. end_of part ≤ length text) (line ∷ rest) (drop n (lines_of text)) (sym there) all);
      rest_within = All-rest (λ part. end_of part ≤ length text) line rest (drop n (lines_of text)) there all;
    }

-- a first line ends at most twelve bytes later, where its header is counted
pub end_of-part_after : (k : ℕ) (part : Part) → end_of (part_after k part) ≤ end_of part + k
end_of-part_after k part = omega (arith, length-drop k part.bytes)
