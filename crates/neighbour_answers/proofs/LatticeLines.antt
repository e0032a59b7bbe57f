-- The text of fusions and covers, part after part.
use Rattle.std.proofs.Common.{◌≡◌, ℕ, List, ◌++◌, length, take, ap, ◌∙◌, arith}
use Rattle.std.specs.Prelude.{codes, decimal}
use Rattle.std.proofs.lemmas.List.{take_all, append_assoc}
use Rattle.report_text.specs.Entries.{entry_lines}
use Rattle.fusion_lattice.specs.declared.cover_list.Cover.{Cover}
use Rattle.neighbour_answers.specs.LatticeAnswer.{cover_lines, lattice_text_of}

-- two parts behind a text
joined_on : (old one two a b : List ℕ) → one ≡ old ++ a → two ≡ one ++ b → two ≡ old ++ (a ++ b)
joined_on old one two a b p q = q ∙ ap (λ t. t ++ b) p ∙ append_assoc old a b

-- a word and a number behind a text
field_on : (old new word : List ℕ) (number n : ℕ) → number ≡ n → new ≡ old ++ word ++ decimal number → new ≡ old ++ (word ++ decimal n)
field_on old new word number n e h = h ∙ append_assoc old word (decimal number) ∙ ap (λ m. old ++ (word ++ decimal m)) e

-- the parts in which it is put
pub lattice_lines : (fusions : List (List ℕ)) (covers : List Cover) (old one two three four five new : List ℕ) (strings pairs count : ℕ)
    → strings ≡ length fusions → pairs ≡ length covers → count ≡ length fusions
    → one ≡ old ++ codes "lattice fusions " ++ decimal strings → two ≡ one ++ codes " covers " ++ decimal pairs → three ≡ two ++ codes "\n"
    → four ≡ three ++ entry_lines (take count fusions) → five ≡ four ++ cover_lines covers → new ≡ five ++ codes "end\n" → new ≡ old ++ lattice_text_of fusions covers
lattice_lines fusions covers old one two three four five new strings pairs count m p n a b c d e f =
    let all : entry_lines (take count fusions) ≡ entry_lines fusions = ap entry_lines (take_all count fusions (omega (arith, n))) in
    let first : List ℕ = codes "lattice fusions " ++ decimal (length fusions) in
    let second : List ℕ = codes " covers " ++ decimal (length covers) in
    let head : List ℕ = first ++ second ++ codes "\n" in
    let shown : List ℕ = head ++ entry_lines fusions in
    let to_first : one ≡ old ++ first = field_on old one (codes "lattice fusions ") strings (length fusions) m a in
    let to_second : two ≡ old ++ (first ++ second) = joined_on old one two first second to_first (field_on one two (codes " covers ") pairs (length covers) p b) in
    let to_head : three ≡ old ++ head = joined_on old two three (first ++ second) (codes "\n") to_second c in
    let to_shown : four ≡ old ++ shown = joined_on old three four head (entry_lines fusions) to_head (d ∙ ap (λ t. three ++ t) all) in
    let to_pairs : five ≡ old ++ (shown ++ cover_lines covers) = joined_on old four five shown (cover_lines covers) to_shown e in
    joined_on old five new (shown ++ cover_lines covers) (codes "end\n") to_pairs f
