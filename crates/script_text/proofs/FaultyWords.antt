-- Words of which a test holds.
use Rattle.std.proofs.Common.{◌≡◌, ℕ, ◌+◌, ◌<◌, ◌≤◌, Bool, true, not, List, [], ◌∷◌, ◌++◌, length, get_or, take, sym, ◌∙◌}
use Rattle.std.specs.Borrow.{Bor}
use Rattle.std.specs.List.{AllZip, list_all}
use Rattle.std.proofs.Math.ListN.{length-map}
use Rattle.std.proofs.lemmas.List.{take_more, map-append, length-take-le}
use Rattle.std.proofs.lemmas.Slice.Zip.{all_zipped_more}
use Rattle.std.proofs.lemmas.Bool.{not-true, not_from_false}
use Rattle.std.proofs.lemmas.List.Folds.{list_all_at, list_all-map}
use Rattle.script_text.specs.declared.faults.LineFault.{LineFault}
use Rattle.script_text.specs.declared.faults.LineFault.TheVariants.{Word, NoMemory}
use Rattle.script_text.specs.declared.faults.ScriptWord.{ScriptWord}
use Rattle.script_text.specs.declared.faults.ScriptWord.TheVariants.{BadNumber}
use Rattle.text_lines.specs.Number.{IsNumberForm}
use Rattle.script_text.specs.Answers.{texts, IsFaultWhere}
use Rattle.script_text.specs.LineFaults.{is_number}
use Rattle.script_text.proofs.NumberForms.{forms_length}

pub IsFaultWhere-weaker : (what : ScriptWord) (b c : Bool) (fault : LineFault) → (b ≡ true → c ≡ true) → IsFaultWhere what b fault → IsFaultWhere what c fault
IsFaultWhere-weaker what b c (Word other) f h = (h.0, f h.1)
IsFaultWhere-weaker what b c NoMemory f h = tt

-- a word at a place that is no number
pub bad_at : (words : List (Bor (List ℕ))) (place : ℕ) (d : Bor (List ℕ)) (fault : LineFault) → place < length words
    → IsFaultWhere BadNumber (not (is_number (get_or words place d).now)) fault → IsFaultWhere BadNumber (not (list_all is_number (texts words))) fault
bad_at words place d fault h failed =
    IsFaultWhere-weaker BadNumber _ _ fault
    (λ e. not_from_false _ (list_all-map is_number (λ (word : Bor (List ℕ)). word.now) words ∙ list_all_at (λ (word : Bor (List ℕ)). is_number word.now) words place d h (not-true _ e)))
    failed

-- numbers that words write, up to one more word
pub forms_more : (words : List (Bor (List ℕ))) (numbers : List ℕ) (place n : ℕ) (d : Bor (List ℕ)) → place < length words → AllZip IsNumberForm (texts (take place words)) numbers
    → IsNumberForm (get_or words place d).now n → AllZip IsNumberForm (texts (take (place + 1) words)) (numbers ++ n ∷ [])
forms_more words numbers place n d h forms form =
    rw (take_more words place d h) (rw (map-append (λ (word : Bor (List ℕ)). word.now) (take place words) (get_or words place d ∷ [])) (all_zipped_more IsNumberForm _ numbers _ n forms form))

-- they are as many as the words
pub forms_count : (words : List (Bor (List ℕ))) (numbers : List ℕ) (place : ℕ) → place ≤ length words → AllZip IsNumberForm (texts (take place words)) numbers → length numbers ≡ place
forms_count words numbers place h forms =
    sym (forms_length _ numbers forms) ∙ length-map (take place words) (λ (word : Bor (List ℕ)). word.now) ∙ length-take-le place words h
