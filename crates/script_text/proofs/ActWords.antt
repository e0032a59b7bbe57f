-- What the functions that read the words of a line know.
use Rattle.std.proofs.Common.{◌≡◌, ℕ, suc, ◌-◌, ◌≤◌, Bool, true, false, cond, leb, eqb, List, [], ◌∷◌, length, get_or, take, drop, Some, None, IsTrue, bytes_eq, refl, sym, ap, ◌∙◌, subst, inl, inr, ⊎_elim, arith}
use Rattle.std.specs.Prelude.{codes}
use Rattle.std.specs.Borrow.{Bor}
use Rattle.std.specs.List.{AllZip}
use Rattle.std.proofs.Math.ListN.{length-map}
use Rattle.std.proofs.Common.{length-drop}
use Rattle.std.proofs.lemmas.List.{take_all}
use Rattle.std.proofs.lemmas.Bool.{false≢true, eqb-true, leb-true, not-false, or_cases}
use Rattle.std.proofs.lemmas.Slice.Eq.{bytes_eq-Decides}
use Rattle.text_lines.specs.Number.{IsNumberForm}
use Rattle.text_lines.proofs.Numbers.{number_of-form}
use Rattle.pair_colours.specs.Tests.{first_that_holds}
use Rattle.script_text.specs.declared.acts.Act.{Act}
use Rattle.script_text.specs.declared.acts.Act.TheVariants as acts
use Rattle.script_text.specs.declared.acts.GraphForm.TheVariants.{Graph6, Digraph6}
use Rattle.script_text.specs.declared.faults.LineFault.{LineFault}
use Rattle.script_text.specs.declared.faults.LineFault.TheVariants.{Word, NoMemory}
use Rattle.script_text.specs.declared.faults.ScriptWord.TheVariants.{UnknownWord, WrongCount, BadLimit}
use Rattle.script_text.specs.declared.keywords.Keyword.{Keyword}
use Rattle.script_text.specs.declared.keywords.Keyword.TheVariants.{Mergings, Trace, Write}
use Rattle.script_text.specs.Answers.{texts, IsFaultWhere, IsFirstFault}
use Rattle.script_text.specs.Grammar.{AsksFor, AreSome, IsLimit}
use Rattle.script_text.specs.Keyword.{spelling, allows, has_unknown_word}
use Rattle.script_text.specs.LineFaults.{is_beyond_limit, content_tests, keyword_tests, word_tests}
use Rattle.script_text.proofs.NumberForms.{forms_all, forms_length}
use Rattle.script_text.proofs.KeywordTests.{word_tests-spelling}

-- words that are one or more write one or more numbers
pub some_forms : (words : List (Bor (List ℕ))) (numbers : List ℕ) → IsTrue (leb 1 (length words)) → AllZip IsNumberForm (texts words) numbers → AreSome numbers
some_forms words numbers count forms =
    let many : 1 ≤ length words = leb-true 1 (length words) count in
    omega (arith, forms_length _ numbers forms, length-map words (λ (word : Bor (List ℕ)). word.now))

-- numbers that the words from a place on write
pub forms_behind : (words : List (Bor (List ℕ))) (place : ℕ) (numbers : List ℕ) → AllZip IsNumberForm (texts (take (length words - place) (drop place words))) numbers
    → AllZip IsNumberForm (texts (drop place words)) numbers
forms_behind words place numbers forms =
    let whole : take (length words - place) (drop place words) ≡ drop place words = take_all _ (drop place words) (omega (arith, length-drop place words)) in
    subst (λ ws. AllZip IsNumberForm (texts ws) numbers) whole forms

-- how many words follow a keyword, in either form
pub count_of_texts : (keyword : Keyword) (words : List (Bor (List ℕ))) (allowed : Bool) → allows keyword (length words) ≡ allowed → allows keyword (length (texts words)) ≡ allowed
count_of_texts keyword words allowed e = ap (λ n. allows keyword n) (length-map words (λ (word : Bor (List ℕ)). word.now)) ∙ e

-- the tests of a line that begins with a keyword are those of the keyword
tests_are : (first : List ℕ) (keyword : Keyword) (others : List (List ℕ)) → first ≡ spelling keyword → word_tests (first ∷ others) ≡ keyword_tests keyword others
tests_are first keyword others e = ap (λ w. word_tests (w ∷ others)) e ∙ word_tests-spelling keyword others

pub unknown_word : (first : List ℕ) (keyword : Keyword) (others : List (List ℕ)) → first ≡ spelling keyword → has_unknown_word keyword others ≡ true
    → first_that_holds (word_tests (first ∷ others)) ≡ Some UnknownWord
unknown_word first keyword others e known = ap first_that_holds (tests_are first keyword others e) ∙ rw known refl

pub wrong_count : (first : List ℕ) (keyword : Keyword) (others : List (List ℕ)) → first ≡ spelling keyword → has_unknown_word keyword others ≡ false
    → allows keyword (length others) ≡ false → first_that_holds (word_tests (first ∷ others)) ≡ Some WrongCount
wrong_count first keyword others e known count = ap first_that_holds (tests_are first keyword others e) ∙ rw (known, count) refl

pub content_fails : (first : List ℕ) (keyword : Keyword) (others : List (List ℕ)) → first ≡ spelling keyword → has_unknown_word keyword others ≡ false
    → allows keyword (length others) ≡ true → (fault : LineFault) → IsFirstFault (content_tests keyword others) fault → IsFirstFault (word_tests (first ∷ others)) fault
content_fails first keyword others e known count (Word what) h = ap first_that_holds (tests_are first keyword others e) ∙ rw (known, count) h
content_fails first keyword others e known count NoMemory h = tt

-- a number, and one or more behind it
pub point_and_set : (words : List (Bor (List ℕ))) (d : Bor (List ℕ)) (x : ℕ) (set : List ℕ) → IsTrue (leb 2 (length words)) → IsNumberForm (get_or words 0 d).now x
    → AllZip IsNumberForm (texts (drop 1 words)) set → AreSome set × AllZip IsNumberForm (texts words) (x ∷ set)
point_and_set [] d x set count form forms = absurd (false≢true count)
point_and_set (word ∷ words) d x set count form forms =
    let many : 2 ≤ suc (length words) = leb-true 2 (suc (length words)) count in
    (omega (arith, forms_length _ set forms, length-map words (λ (w : Bor (List ℕ)). w.now)), (form, forms))

-- how many words stand behind `mergings` where they are not one
pub mergings_count : (words : List (Bor (List ℕ))) → IsTrue (allows Mergings (length words)) → (length words ≡ 1 → ⊥) → 3 ≤ length words
mergings_count words count more = ⊎_elim (λ e. absurd (more (eqb-true (length words) 1 e))) (λ e. leb-true 3 (length words) e) (or_cases _ _ count)

-- one word has none behind it
pub nothing_behind : (words : List (Bor (List ℕ))) → length words ≡ 1 → AllZip IsNumberForm (texts (drop 2 words)) []
nothing_behind [] len = tt
nothing_behind (word ∷ []) len = tt
nothing_behind (word ∷ next ∷ words) len = absurd (omega arith)

-- `mergings` with a number alone
pub all_mergings : (words : List (Bor (List ℕ))) (d : Bor (List ℕ)) (most : ℕ) → length words ≡ 1 → IsNumberForm (get_or words 0 d).now most
    → (act : Act) → (act ≡ acts.Mergings most None) × IsLimit most → AsksFor (codes "mergings" ∷ texts words) act
all_mergings [] d most len form act h = absurd (omega arith)
all_mergings (word ∷ []) d most len form act h = subst (λ a. AsksFor (codes "mergings" ∷ word.now ∷ []) a) (sym h.0) (h.1, (refl, (form, tt)))
all_mergings (word ∷ next ∷ words) d most len form act h = absurd (omega arith)

-- `mergings` with a number and a growth string
pub mergings_after : (words : List (Bor (List ℕ))) (d : Bor (List ℕ)) (most : ℕ) (after : List ℕ) → has_unknown_word Mergings (texts words) ≡ false → 3 ≤ length words
    → IsNumberForm (get_or words 0 d).now most → AllZip IsNumberForm (texts (drop 2 words)) after
    → (act : Act) → (act ≡ acts.Mergings most (Some after)) × IsLimit most → AsksFor (codes "mergings" ∷ texts words) act
mergings_after [] d most after known many form forms act h = absurd (omega arith)
mergings_after (word ∷ []) d most after known many form forms act h = absurd (omega arith)
mergings_after (word ∷ next ∷ words) d most after known many form forms act h =
    let some : AreSome after = omega (arith, forms_length _ after forms, length-map words (λ (w : Bor (List ℕ)). w.now)) in
    let is_after : next.now ≡ codes "after" = (bytes_eq-Decides next.now (codes "after")).0 (not-false _ known) in
    subst (λ a. AsksFor (codes "mergings" ∷ word.now ∷ next.now ∷ texts words) a) (sym h.0) (h.1, some, (word.now, form, (refl, (refl, (is_after, forms)))))

-- `mergings` with a number that is out of range, and behind it only numbers
pub mergings_beyond : (words : List (Bor (List ℕ))) (d : Bor (List ℕ)) (most : ℕ) (after : List ℕ) → 1 ≤ length words → IsNumberForm (get_or words 0 d).now most
    → AllZip IsNumberForm (texts (drop 2 words)) after → (fault : LineFault) → IsFaultWhere BadLimit (is_beyond_limit most) fault → IsFirstFault (content_tests Mergings (texts words)) fault
mergings_beyond [] d most after many form forms fault h = absurd (omega arith)
mergings_beyond (word ∷ words) d most after many form forms NoMemory h = tt
mergings_beyond (word ∷ []) d most after many form forms (Word what) h = rw (number_of-form word.now most form, h.1, h.0) refl
mergings_beyond (word ∷ next ∷ words) d most after many form forms (Word what) h =
    rw (number_of-form word.now most form, forms_all (texts words) after forms, h.1, h.0) refl

-- `trace` alone, or with `2` behind it
pub trace_words : (words : List (Bor (List ℕ))) (version : ℕ) → has_unknown_word Trace (texts words) ≡ false → IsTrue (allows Trace (length words))
    → version ≡ cond (eqb (length words) 0) 1 2 → AsksFor (codes "trace" ∷ texts words) (acts.Trace version)
trace_words [] version known count e = inl (e, refl)
trace_words (word ∷ []) version known count e = inr (e, ap (λ w. codes "trace" ∷ w ∷ []) ((bytes_eq-Decides word.now (codes "2")).0 (not-false _ known)))
trace_words (word ∷ next ∷ words) version known count e = absurd (omega (arith, leb-true (suc (suc (length words))) 1 count))

-- `write` with a name that is one of the two
write_asked : (word : List ℕ) (others : List (List ℕ)) (set : List ℕ) → has_unknown_word Write (word ∷ others) ≡ false → AreSome set → AllZip IsNumberForm others set
    → AsksFor (codes "write" ∷ word ∷ others) (acts.Write (cond (bytes_eq word (codes "graph6")) Graph6 Digraph6) set)
write_asked word others set known some forms =
    let P : List ℕ → Type 0 = λ w. AsksFor (codes "write" ∷ w ∷ others) (acts.Write (cond (bytes_eq w (codes "graph6")) Graph6 Digraph6) set) in
    ⊎_elim
    (λ e. subst P (sym ((bytes_eq-Decides word (codes "graph6")).0 e)) (some, (refl, (refl, forms))))
    (λ e. subst P (sym ((bytes_eq-Decides word (codes "digraph6")).0 e)) (some, (refl, (refl, forms))))
    (or_cases _ _ (not-false _ known))

pub write_words : (words : List (Bor (List ℕ))) (d : Bor (List ℕ)) (set : List ℕ) → has_unknown_word Write (texts words) ≡ false → IsTrue (leb 2 (length words))
    → AllZip IsNumberForm (texts (drop 1 words)) set → AsksFor (codes "write" ∷ texts words) (acts.Write (cond (bytes_eq (get_or words 0 d).now (codes "graph6")) Graph6 Digraph6) set)
write_words [] d set known count forms = absurd (false≢true count)
write_words (word ∷ words) d set known count forms =
    let many : 2 ≤ suc (length words) = leb-true 2 (suc (length words)) count in
    write_asked word.now (texts words) set known (omega (arith, forms_length _ set forms, length-map words (λ (w : Bor (List ℕ)). w.now))) forms
