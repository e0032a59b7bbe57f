-- A text of one line.
use Rattle.std.proofs.Common.{◌≡◌, ℕ, ◌+◌, ◌-◌, ◌<◌, min, cond, List, [], ◌∷◌, length, take, drop, get_or, sym, ap, ◌∙◌, arith, eqb}
use Rattle.std.specs.Prelude.{All}
use Rattle.std.specs.List.{position_or_len}
use Rattle.std.specs.Str.Lines.{strip_carriage_return}
use Rattle.std.proofs.lemmas.Bool.{ne_eqb}
use Rattle.std.proofs.lemmas.List.{take_all, drop_all}
use Rattle.std.proofs.lemmas.List.Sums.{position_or_len_is}
use Rattle.text_lines.specs.Lines.{lines_from, lines_of, without_return}
use Rattle.text_lines.proofs.FirstLine.{lines_from-first}

strip_carriage_return-same : (line : List ℕ) → 0 < length line → All (λ b. 13 < b) line → strip_carriage_return line ≡ line
strip_carriage_return-same line some high =
    let last = high (length line - 1) 0 (omega arith) in
    ap (λ b. cond b (take (length line - 1) line) line) (ne_eqb (get_or line (length line - 1) 0) 13 (λ e. omega (arith, last)))

-- a text whose bytes are all above the carriage return is one line
pub lines_of-one : (text : List ℕ) → 0 < length text → All (λ b. 13 < b) text → lines_of text ≡ record { start = 0; bytes = text } ∷ []
lines_of-one text some high =
    let n = length text in
    let no_feed : position_or_len (λ b. eqb b 10) text ≡ n = position_or_len_is (λ b. eqb b 10) text n 0 (omega arith) (λ k h. ne_eqb (get_or text k 0) 10 (λ e. let above = high k 0 h in omega arith)) (λ h. absurd (omega arith)) in
    let whole : n ≡ min n (n + 1) = omega arith in
    lines_from-first 0 text n n (sym no_feed) whole some
    ∙ ap (λ line. without_return (record { start = 0; bytes = line }) ∷ lines_from (0 + n) (drop n text)) (take_all n text (omega arith))
    ∙ ap (λ line. record { start = 0; bytes = line } ∷ lines_from (0 + n) (drop n text)) (strip_carriage_return-same text some high)
    ∙ ap (λ rest. record { start = 0; bytes = text } ∷ lines_from (0 + n) rest) (drop_all n text (omega arith))
