-- The words of a line, and the bytes that they are of.
use Rattle.std.proofs.Common.{◌≡◌, ℕ, suc, ◌+◌, ◌^◌, ◌<◌, ◌≤◌, Bool, true, false, not, eqb, leb, List, [], ◌∷◌, length, map, refl, sym, ap, ◌∙◌, subst, ⊎_elim, arith}
use Rattle.std.specs.Prelude.{All}
use Rattle.std.specs.Borrow.{Bor}
use Rattle.std.specs.List.{slice_split, list_all}
use Rattle.std.specs.Str.{IsAscii}
use Rattle.std.proofs.Math.ListN.{length-map}
use Rattle.std.proofs.lemmas.Bool.{and_parts, or_cases, eqb-true, leb-true}
use Rattle.std.proofs.lemmas.List.Elements.{All-nil, All-cons, All-head, All-tail, All-weaker}
use Rattle.std.proofs.lemmas.List.Splits.{length-slice_split}
use Rattle.std.proofs.lemmas.List.Sums.{count_by-le-length, length-filter, AllPass-from_list_all}
use Rattle.std.proofs.lemmas.Str.Ascii.{IsAscii-from_all}
use Rattle.text_lines.specs.Part.{Part, placed}
use Rattle.text_lines.specs.Words.{is_blank_byte, words_of}
use Rattle.text_lines.proofs.WordBytes.{words_from-bytes}
use Rattle.script_text.specs.Answers.{texts}
use Rattle.script_text.specs.LineFaults.{is_script_byte, word_texts}

script_byte_ascii : (b : ℕ) → is_script_byte b ≡ true → b < 128
script_byte_ascii b h = ⊎_elim (λ e. omega (arith, eqb-true b 9 e)) (λ e. omega (arith, leb-true b 126 (and_parts (leb 32 b) (leb b 126) e).1)) (or_cases (eqb b 9) _ h)

-- the words of a line whose bytes may stand in a script are ASCII
words_below : (line : Part) → list_all is_script_byte line.bytes ≡ true → All (λ word. All (λ b. b < 128) word.bytes) (words_of line)
words_below line h = words_from-bytes (λ b. b < 128) line.start line.bytes
    (All-weaker (λ b. is_script_byte b ≡ true) (λ b. is_blank_byte b ≡ false → b < 128) (λ b e _. script_byte_ascii b e) line.bytes (AllPass-from_list_all is_script_byte line.bytes h))

words_ascii : (words : List (Bor (List ℕ))) (parts : List Part) → texts words ≡ map (λ word. word.bytes) parts → All (λ word. All (λ b. b < 128) word.bytes) parts
    → All (λ word. IsAscii word.now) words
words_ascii [] parts e all = All-nil (λ (word : Bor (List ℕ)). IsAscii word.now)
words_ascii (word ∷ words) [] e all = absurd cc
words_ascii (word ∷ words) (part ∷ parts) e all =
    let heads : word.now ≡ part.bytes = cc in
    let tails : texts words ≡ map (λ w. w.bytes) parts = cc in
    All-cons (λ (w : Bor (List ℕ)). IsAscii w.now) word words
    (subst (λ bs. IsAscii bs) (sym heads) (IsAscii-from_all part.bytes (All-head (λ (w : Part). All (λ b. b < 128) w.bytes) part parts all)))
    (words_ascii words parts tails (All-tail (λ (w : Part). All (λ b. b < 128) w.bytes) part parts all))

length-placed : (start : ℕ) (parts : List (List ℕ)) → length (placed start parts) ≡ length parts
length-placed start [] = refl
length-placed start (part ∷ parts) = ap (λ n. suc n) (length-placed (start + length part + 1) parts)

-- a line has at most one word more than it has bytes
pub few_words : (line : Part) → length (words_of line) ≤ length line.bytes + 1
few_words line =
    let parts = slice_split is_blank_byte line.bytes in
    let kept : Part → Bool = λ word. not (eqb (length word.bytes) 0) in
    omega (arith, length-filter kept (placed line.start parts), count_by-le-length kept (placed line.start parts), length-placed line.start parts, length-slice_split is_blank_byte line.bytes, count_by-le-length is_blank_byte line.bytes)

-- the words of a line behind the first
pub record AreOthers (line first : Part) (rest : List Part) (others : List (Bor (List ℕ))) : Type 0 where
  pub whole : words_of line ≡ first ∷ rest
  pub behind : texts others ≡ map (λ word. word.bytes) rest

pub are_others : (line first : Part) (all rest : List Part) (others : List (Bor (List ℕ))) → all ≡ words_of line → all ≡ first ∷ rest
    → texts others ≡ map (λ word. word.bytes) rest → AreOthers line first rest others
are_others line first all rest others e f g = record { whole = sym e ∙ f; behind = g }

pub others_few : {line first : Part} {rest : List Part} {others : List (Bor (List ℕ))} → AreOthers line first rest others → length line.bytes < 2 ^ 31 → length others < 2 ^ 32
others_few {line} {first} {rest} {others} h few =
    omega (arith, few_words line, ap length h.whole, ap length h.behind, length-map others (λ (word : Bor (List ℕ)). word.now), length-map rest (λ (word : Part). word.bytes))

pub others_ascii : {line first : Part} {rest : List Part} {others : List (Bor (List ℕ))} → AreOthers line first rest others → list_all is_script_byte line.bytes ≡ true
    → All (λ word. IsAscii word.now) others
others_ascii {line} {first} {rest} {others} h bytes =
    let all = subst (λ (ws : List Part). All (λ word. All (λ b. b < 128) word.bytes) ws) h.whole (words_below line bytes) in
    words_ascii others rest h.behind (All-tail (λ (w : Part). All (λ b. b < 128) w.bytes) first rest all)

pub others_texts : {line first : Part} {rest : List Part} {others : List (Bor (List ℕ))} → AreOthers line first rest others → word_texts line ≡ first.bytes ∷ texts others
others_texts {line} {first} {rest} {others} h = ap (λ (ws : List Part). map (λ word. word.bytes) ws) h.whole ∙ ap (λ ws. first.bytes ∷ ws) (sym h.behind)
