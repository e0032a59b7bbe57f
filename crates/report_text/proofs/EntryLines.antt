-- Lines of entries, written number by number and entry by entry.
use Rattle.std.proofs.Common.{◌≡◌, ℕ, ◌+◌, ◌<◌, ◌≤◌, List, [], ◌∷◌, ◌++◌, length, take, slice_index, sym, ap, ◌∙◌, arith}
use Rattle.std.specs.Prelude.{decimal}
use Rattle.std.proofs.lemmas.List.{length-take, take_more, flat_map_more}
use Rattle.text_lines.specs.Joined.{joined, separator_before}
use Rattle.text_lines.proofs.JoinedNumbers.{numbers_more}
use Rattle.visitors.specs.Entries.{entry_at}
use Rattle.report_text.specs.Entries.{entry_line, entry_lines}

-- one more number of a list
pub number_more : (s : ℕ) (numbers start old new : List ℕ) (place width number : ℕ) → place < width → width ≡ length numbers
    → old ≡ start ++ joined s (take place numbers) → number ≡ slice_index numbers place → new ≡ old ++ separator_before s place ++ decimal number
    → new ≡ start ++ joined s (take (place + 1) numbers)
number_more s numbers start old new place width number below wide before is after =
    numbers_more s (take place numbers) start old new place number (omega (arith, below, wide, length-take place numbers)) before after
    ∙ ap (λ n. start ++ joined s (take place numbers ++ n ∷ [])) is
    ∙ ap (λ l. start ++ joined s l) (sym (take_more numbers place 0 (omega (arith, below, wide))))

-- one more entry of a list
pub entry_more : (entries : List (List ℕ)) (start old new : List ℕ) (entry count : ℕ) → entry < count → count ≤ length entries
    → old ≡ start ++ entry_lines (take entry entries) → new ≡ old ++ entry_line (entry_at entries entry)
    → new ≡ start ++ entry_lines (take (entry + 1) entries)
entry_more entries start old new entry count below few before after =
    after ∙ ap (λ text. text ++ entry_line (entry_at entries entry)) before
    ∙ flat_map_more entry_line start (take entry entries) (entry_at entries entry)
    ∙ ap (λ l. start ++ entry_lines l) (sym (take_more entries entry [] (omega (arith, below, few))))
