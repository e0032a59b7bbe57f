-- The tests of one line: that a line passes them, and what follows.
use Rattle.std.proofs.Common.{◌≡◌, ℕ, ◌<◌, ◌≤◌, Bool, true, false, cond, not, ◌&&◌, eqb, ltb, List, [], ◌∷◌, ◌++◌, get_or, Option, Some, None, refl, sym, ap, ◌∙◌, subst}
use Rattle.std.specs.Option.{option_map_or, option_or}
use Rattle.std.specs.List.{list_all}
use Rattle.std.proofs.lemmas.Bool.{both_ways, and_from, le-ltb, lt-ltb, not_from_false, ltb-false, not-false, false≢true}
use Rattle.text_lines.specs.Part.{Part}
use Rattle.pair_colours.specs.Tests.{first_that_holds}
use Rattle.pair_colours.proofs.TestLemmas.{AllFail-append, AllFail-parts, AllFail-from_none, none-from_AllFail, first_that_holds-append}
use Rattle.script_text.specs.declared.acts.Act.{Act}
use Rattle.script_text.specs.declared.faults.LineFault.{LineFault}
use Rattle.script_text.specs.declared.faults.LineFault.TheVariants.{Word, NoMemory}
use Rattle.script_text.specs.declared.faults.ScriptWord.TheVariants.{TooManyLines, BadByte, UnknownWord, TooManyProducts}
use Rattle.script_text.specs.declared.keywords.Keyword.{Keyword}
use Rattle.script_text.specs.declared.limits.TheConstants.{MOST_LINES, MOST_PRODUCTS}
use Rattle.script_text.specs.declared.keywords.Keyword.TheVariants.{Set, Both, Fix, Join, Adopt, Fuse, Direct, Wreath, Undo, Redo, Show, Raw, Classes, Constants, Tests, Array, Closed, Quotient, Sub, Close, Good, Mergings, Trace, Write}
use Rattle.script_text.specs.Answers.{IsFirstFault, IsRead, adds_product}
use Rattle.script_text.specs.Grammar.{AsksFor}
use Rattle.script_text.specs.Keyword.{spelling, keyword_of, names_file}
use Rattle.script_text.specs.LineFaults.{Test, word_texts, asks, is_script_byte, keyword_tests, word_tests, text_tests, line_tests, starts_product, is_product}
use Rattle.script_text.specs.Script.{takes_product}
use Rattle.script_text.proofs.KeywordTests.{keyword_of-spelling, spelling-keyword_of, word_tests-spelling, no_fault, passes_all}
use Rattle.script_text.proofs.KnownActs.{known, asked, act_with}

-- no keyword begins a comment
no_comment : (keyword : Keyword) → eqb (get_or (spelling keyword) 0 0) 35 ≡ false
no_comment Set = refl
no_comment Both = refl
no_comment Fix = refl
no_comment Join = refl
no_comment Adopt = refl
no_comment Fuse = refl
no_comment Direct = refl
no_comment Wreath = refl
no_comment Undo = refl
no_comment Redo = refl
no_comment Show = refl
no_comment Raw = refl
no_comment Classes = refl
no_comment Constants = refl
no_comment Tests = refl
no_comment Array = refl
no_comment Closed = refl
no_comment Quotient = refl
no_comment Sub = refl
no_comment Close = refl
no_comment Good = refl
no_comment Mergings = refl
no_comment Trace = refl
no_comment Write = refl

-- words that ask for an act pass their tests
pub act_passes : (words : List (List ℕ)) (act : Act) → AsksFor words act → first_that_holds (word_tests words) ≡ None
act_passes words act h =
    let k = known words act h in
    ap (λ ws. first_that_holds (word_tests ws)) k.words_are ∙ ap first_that_holds (word_tests-spelling k.keyword k.others) ∙ no_fault k.keyword k.others k.passes

-- and multiply by a file's relation where the act does
pub act_product : (words : List (List ℕ)) (act : Act) → AsksFor words act → starts_product words ≡ takes_product act
act_product words act h =
    let k = known words act h in
    ap starts_product k.words_are ∙ ap (λ o. option_map_or names_file o false) (keyword_of-spelling k.keyword) ∙ sym k.product

-- words that ask for nothing are no product line
pub silent_product : (words : List (List ℕ)) → asks words ≡ false → starts_product words ≡ false
silent_product [] h = refl
silent_product (first ∷ words) h = go (keyword_of first) refl
  where
    go : (o : Option Keyword) → keyword_of first ≡ o → option_map_or names_file o false ≡ false
    go None e = refl
    go (Some keyword) e =
        let spelled = spelling-keyword_of first keyword e in
        absurd (both_ways _ (ap (λ w. eqb (get_or w 0 0) 35) spelled ∙ no_comment keyword) (not-false _ h))

-- words that ask for something and pass their tests ask for an act
pub passing_act : (words : List (List ℕ)) → asks words ≡ true → first_that_holds (word_tests words) ≡ None → (act : Act) × AsksFor words act
passing_act [] h e = absurd (false≢true h)
passing_act (first ∷ words) h e = go (keyword_of first) refl e
  where
    go : (o : Option Keyword) → keyword_of first ≡ o
        → first_that_holds (option_map_or (λ keyword. keyword_tests keyword words) o ((true, UnknownWord) ∷ [])) ≡ None → (act : Act) × AsksFor (first ∷ words) act
    go None q f = cc
    go (Some keyword) q f =
        let spelled = spelling-keyword_of first keyword q in
        (act_with keyword words, subst (λ w. AsksFor (w ∷ words) (act_with keyword words)) (sym spelled) (asked keyword words (passes_all keyword words f)))

-- what a line that passes its own tests is
pub record IsFine (line : Part) : Type 0 where
  pub bytes : list_all is_script_byte line.bytes ≡ true
  pub words : asks (word_texts line) ≡ true → first_that_holds (word_tests (word_texts line)) ≡ None

pub fine_passes : (line : Part) → IsFine line → first_that_holds (text_tests line) ≡ None
fine_passes line h = rw h.bytes (go (asks (word_texts line)) h.words)
  where
    go : (b : Bool) → (b ≡ true → first_that_holds (word_tests (word_texts line)) ≡ None) → first_that_holds (cond b (word_tests (word_texts line)) []) ≡ None
    go true f = f refl
    go false f = refl

pub passing_fine : (line : Part) → first_that_holds (text_tests line) ≡ None → IsFine line
passing_fine line e = go (list_all is_script_byte line.bytes) (asks (word_texts line)) refl refl e
  where
    go : (a b : Bool) → list_all is_script_byte line.bytes ≡ a → asks (word_texts line) ≡ b
        → first_that_holds ((not a, BadByte) ∷ cond b (word_tests (word_texts line)) []) ≡ None → IsFine line
    go false b p q f = cc
    go true true p q f = record { bytes = p; words = λ _. f }
    go true false p q f = record { bytes = p; words = λ h. absurd (both_ways _ q h) }

-- a line of whose words a test holds
pub words_fail : (words others : List (List ℕ)) (first : List ℕ) → words ≡ first ∷ others → eqb (get_or first 0 0) 35 ≡ false
    → (fault : LineFault) → IsFirstFault (word_tests (first ∷ others)) fault → (asks words ≡ true) × IsFirstFault (word_tests words) fault
words_fail words others first e comment fault h =
    let P : List (List ℕ) → Type 0 = λ ws. (asks ws ≡ true) × IsFirstFault (word_tests ws) fault in
    subst P (sym e) (not_from_false _ comment, h)

pub text_fails : (line : Part) → list_all is_script_byte line.bytes ≡ true → (fault : LineFault)
    → (asks (word_texts line) ≡ true) × IsFirstFault (word_tests (word_texts line)) fault → IsFirstFault (text_tests line) fault
text_fails line bytes (Word what) h = rw (bytes, h.0) h.1
text_fails line bytes NoMemory h = tt

-- a line that was read is fine
pub read_fine : (line : Part) (act : Option Act) → IsRead line act → IsFine line
read_fine line None h = record { bytes = h.bytes; words = λ e. absurd (both_ways _ h.asked e) }
read_fine line (Some act) h = record { bytes = h.bytes; words = λ _. act_passes (word_texts line) act h.asked.1 }

pub read_product : (line : Part) (act : Option Act) → IsRead line act → is_product line ≡ adds_product act
read_product line None h = silent_product (word_texts line) h.asked
read_product line (Some act) h = act_product (word_texts line) act h.asked.1

-- the test of product lines alone
abbrev product_tests : ℕ → Part → List Test
product_tests products line = (is_product line && ltb MOST_PRODUCTS products, TooManyProducts) ∷ []

-- a line that is fine has no fault, as long as there are not too many lines or product lines
pub line_passes : (number products : ℕ) (line : Part) → number ≤ MOST_LINES → IsFine line → (is_product line ≡ true → products ≤ MOST_PRODUCTS)
    → first_that_holds (line_tests number products line) ≡ None
line_passes number products line h fine few =
    none-from_AllFail (line_tests number products line) (
      le-ltb MOST_LINES number h,
      AllFail-append (text_tests line) (product_tests products line) (AllFail-from_none (text_tests line) (fine_passes line fine)) (untested (is_product line) few, tt),
    )
  where
    untested : (b : Bool) → (b ≡ true → products ≤ MOST_PRODUCTS) → (b && ltb MOST_PRODUCTS products) ≡ false
    untested true f = le-ltb MOST_PRODUCTS products (f refl)
    untested false f = refl

pub too_many_products : (number products : ℕ) (line : Part) → number ≤ MOST_LINES → IsFine line → is_product line ≡ true → MOST_PRODUCTS < products
    → first_that_holds (line_tests number products line) ≡ Some TooManyProducts
too_many_products number products line h fine product many =
    let last = product_tests products line in
    let holds : (is_product line && ltb MOST_PRODUCTS products) ≡ true = and_from (is_product line) (ltb MOST_PRODUCTS products) product (lt-ltb MOST_PRODUCTS products many) in
    ap (λ b. cond b (Some TooManyLines) (first_that_holds (text_tests line ++ last))) (le-ltb MOST_LINES number h) ∙ first_that_holds-append (text_tests line) last
    ∙ ap (λ o. option_or o (first_that_holds last)) (fine_passes line fine) ∙ ap (λ b. cond b (Some TooManyProducts) None) holds

-- a line of which no test holds
pub record IsPassed (number products : ℕ) (line : Part) : Type 0 where
  pub few_lines : number ≤ MOST_LINES
  pub fine : IsFine line
  pub few_products : is_product line ≡ true → products ≤ MOST_PRODUCTS

pub passed : (number products : ℕ) (line : Part) → first_that_holds (line_tests number products line) ≡ None → IsPassed number products line
passed number products line e =
    let fails = AllFail-from_none (line_tests number products line) e in
    let parts = AllFail-parts (text_tests line) (product_tests products line) fails.1 in
    record {
      few_lines = ltb-false MOST_LINES number fails.0;
      fine = passing_fine line (none-from_AllFail (text_tests line) parts.0);
      few_products = few (is_product line) parts.1.0;
    }
  where
    few : (b : Bool) → (b && ltb MOST_PRODUCTS products) ≡ false → b ≡ true → products ≤ MOST_PRODUCTS
    few true f h = ltb-false MOST_PRODUCTS products f
    few false f h = absurd (false≢true h)
