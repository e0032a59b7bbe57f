-- Which act the words of a line ask for: at most one, and one where no test of them holds.
use Rattle.std.proofs.Common.{◌≡◌, ℕ, suc, ◌<◌, ◌≤◌, true, false, cond, not, leb, ltb, eqb, List, [], ◌∷◌, ◌++◌, length, get_or, drop, map, Some, None, bytes_eq, refl, sym, ap, ◌∙◌, subst, inl, inr, ⊎_elim, arith}
use Rattle.std.specs.Prelude.{codes}
use Rattle.std.specs.List.{AllZip, list_all}
use Rattle.std.proofs.lemmas.Bool.{false_from_ne_true, or_from, or_right, both_ways, false≢true, eqb-true, eqb-false, ltb-false, or_parts, or_cases, and_parts, not-false, leb-true, lt-leb, ne_eqb, le-ltb, le-leb}
use Rattle.std.proofs.lemmas.Slice.Eq.{bytes_eq-Decides}
use Rattle.text_lines.specs.Number.{IsNumberForm}
use Rattle.text_lines.proofs.Numbers.{number_of-form}
use Rattle.script_text.specs.declared.acts.Act.{Act}
use Rattle.script_text.specs.declared.acts.Act.TheVariants as acts
use Rattle.script_text.specs.declared.acts.GraphForm.TheVariants.{Graph6, Digraph6}
use Rattle.script_text.specs.declared.keywords.Keyword.{Keyword}
use Rattle.script_text.specs.declared.limits.TheConstants.{MOST_MERGINGS}
use Rattle.script_text.specs.declared.keywords.Keyword.TheVariants.{Set, Both, Fix, Join, Adopt, Fuse, Direct, Wreath, Undo, Redo, Show, Raw, Classes, Constants, Tests, Array, Closed, Quotient, Sub, Close, Good, Mergings, Trace, Write}
use Rattle.script_text.specs.Keyword.{spelling, keyword_of, allows, has_unknown_word, number_words, names_file}
use Rattle.script_text.specs.Grammar.{AsksFor, Spells, IsLimit}
use Rattle.script_text.specs.LineFaults.{is_number, has_bad_limit, has_bad_name, is_beyond_limit}
use Rattle.script_text.specs.Script.{takes_product}
use Rattle.script_text.proofs.NumberForms.{value, value-form, number_of-value, is_number-form, form-is_number, forms_all, forms_values, forms_length, all_forms}
use Rattle.std.proofs.Common.{length-drop}
use Rattle.std.proofs.Math.ListN.{length-map}
use Rattle.script_text.proofs.KeywordTests.{Passes, keyword_of-spelling}

-- the number that the word at a place writes
abbrev number_at : List (List ℕ) → ℕ → ℕ
number_at others place = get_or (map value others) place 0

abbrev word_at : List (List ℕ) → ℕ → List ℕ
word_at others place = get_or others place []

-- the act of a keyword with the words that follow it
abbrev pub act_with : Keyword → List (List ℕ) → Act
act_with Set others = acts.Set (number_at others 0) (number_at others 1) (number_at others 2)
act_with Both others = acts.Both (number_at others 0) (number_at others 1) (number_at others 2)
act_with Fix others = acts.Fix (number_at others 0)
act_with Join others = acts.Join (number_at others 0) (number_at others 1)
act_with Adopt others = acts.Adopt
act_with Fuse others = acts.Fuse (map value others)
act_with Direct others = acts.Direct (word_at others 0)
act_with Wreath others = acts.Wreath (word_at others 0)
act_with Undo others = acts.Undo
act_with Redo others = acts.Redo
act_with Show others = acts.Show
act_with Raw others = acts.Raw
act_with Classes others = acts.Classes
act_with Constants others = acts.Constants
act_with Tests others = acts.Tests
act_with Array others = acts.Array (map value others)
act_with Closed others = acts.Closed
act_with Quotient others = acts.Quotient (map value others)
act_with Sub others = acts.Sub (number_at others 0) (drop 1 (map value others))
act_with Close others = acts.Close (map value others)
act_with Good others = acts.Good
act_with Mergings others = acts.Mergings (number_at others 0) (cond (leb (length others) 1) None (Some (map value (drop 2 others))))
act_with Trace others = acts.Trace (cond (eqb (length others) 0) 1 2)
act_with Write others = acts.Write (cond (bytes_eq (word_at others 0) (codes "graph6")) Graph6 Digraph6) (map value (drop 1 others))

-- the words of a line that asks for an act: its keyword, and words behind it of which no test holds and which fix the act
pub record IsKnown (words : List (List ℕ)) (act : Act) : Type 0 where
  pub keyword : Keyword
  pub others : List (List ℕ)
  pub words_are : words ≡ spelling keyword ∷ others
  pub passes : Passes keyword others
  pub product : takes_product act ≡ names_file keyword
  pub act_is : act ≡ act_with keyword others

-- a keyword that stands alone
alone : (keyword : Keyword) (words : List (List ℕ)) → words ≡ spelling keyword ∷ [] → Passes keyword []
    → takes_product (act_with keyword []) ≡ names_file keyword → IsKnown words (act_with keyword [])
alone keyword words e p product = record { keyword = keyword; others = []; words_are = e; passes = p; product = product; act_is = refl }

-- the words behind some first ones, with what they write
record HasNumbers (firsts : List (List ℕ)) (numbers : List ℕ) (words : List (List ℕ)) : Type 0 where
  others : List (List ℕ)
  words_are : words ≡ firsts ++ others
  forms : AllZip IsNumberForm others numbers

numbers_behind : (firsts : List (List ℕ)) (numbers : List ℕ) (words : List (List ℕ)) → Spells firsts numbers words → HasNumbers firsts numbers words
numbers_behind [] numbers words h = record { others = words; words_are = refl; forms = h }
numbers_behind (first ∷ firsts) numbers [] h = absurd h
numbers_behind (first ∷ firsts) numbers (word ∷ words) h =
    let n = numbers_behind firsts numbers words h.1 in
    record { others = n.others; words_are = ap (λ w. w ∷ words) h.0 ∙ ap (λ ws. first ∷ ws) n.words_are; forms = n.forms }

-- a keyword with words behind it that are all numbers
numbered : (keyword : Keyword) (numbers : List ℕ) (words : List (List ℕ)) (act : Act) (n : HasNumbers (spelling keyword ∷ []) numbers words)
    → has_unknown_word keyword n.others ≡ false → allows keyword (length numbers) ≡ true → number_words keyword n.others ≡ n.others
    → has_bad_limit keyword n.others ≡ false → has_bad_name keyword n.others ≡ false → takes_product act ≡ names_file keyword
    → act ≡ act_with keyword n.others → IsKnown words act
numbered keyword numbers words act n known count places limit name product is = record {
  keyword = keyword;
  others = n.others;
  words_are = n.words_are;
  passes = record {
    known = known;
    count = rw (forms_length n.others numbers n.forms) count;
    numbers = rw places (rw (forms_all n.others numbers n.forms) refl);
    limit = limit;
    name = name;
  };
  product = product;
  act_is = is;
}

-- one number
one_word : (others : List (List ℕ)) (n : ℕ) → AllZip IsNumberForm others (n ∷ []) → (word : List ℕ) × (others ≡ word ∷ []) × IsNumberForm word n
one_word [] n h = absurd h
one_word (word ∷ []) n h = (word, refl, h.0)
one_word (word ∷ next ∷ words) n h = absurd h.1

-- a limit passes its test
in_limit : (word : List ℕ) (most : ℕ) (others : List (List ℕ)) → IsNumberForm word most → IsLimit most → has_bad_limit Mergings (word ∷ others) ≡ false
in_limit word most others form limit =
    rw (number_of-form word most form) (or_from _ _ (ne_eqb most 0 (λ e. omega (arith, limit.0, e))) (le-ltb MOST_MERGINGS most limit.1))

merged : (word : List ℕ) (others : List (List ℕ)) (most : ℕ) (after : List ℕ) → value word ≡ most → map value others ≡ after
    → acts.Mergings most (Some after) ≡ act_with Mergings (word ∷ codes "after" ∷ others)
merged word others most after e f = rw (← e, ← f) (rw (lt-leb (suc (suc (length others))) 1 (omega arith)) refl)

-- an act that is asked for is known
pub known : (words : List (List ℕ)) (act : Act) → AsksFor words act → IsKnown words act
known words (acts.Set x y colour) h =
    let n = numbers_behind (codes "set" ∷ []) (x ∷ y ∷ colour ∷ []) words h in
    numbered Set _ words _ n refl refl refl refl refl refl (rw (forms_values n.others _ n.forms) refl)
known words (acts.Both x y colour) h =
    let n = numbers_behind (codes "both" ∷ []) (x ∷ y ∷ colour ∷ []) words h in
    numbered Both _ words _ n refl refl refl refl refl refl (rw (forms_values n.others _ n.forms) refl)
known words (acts.Fix x) h =
    let n = numbers_behind (codes "fix" ∷ []) (x ∷ []) words h in
    numbered Fix _ words _ n refl refl refl refl refl refl (rw (forms_values n.others _ n.forms) refl)
known words (acts.Join keep gone) h =
    let n = numbers_behind (codes "join" ∷ []) (keep ∷ gone ∷ []) words h in
    numbered Join _ words _ n refl refl refl refl refl refl (rw (forms_values n.others _ n.forms) refl)
known words acts.Adopt h = alone Adopt words h (record { known = refl; count = refl; numbers = refl; limit = refl; name = refl }) refl
known words (acts.Fuse string) h =
    let n = numbers_behind (codes "fuse" ∷ []) string words h.1 in
    numbered Fuse string words _ n refl (le-leb 1 (length string) h.0) refl refl refl refl (rw (forms_values n.others _ n.forms) refl)
known words (acts.Direct file) h = record {
  keyword = Direct;
  others = file ∷ [];
  words_are = h.1;
  passes = record { known = refl; count = refl; numbers = refl; limit = refl; name = false_from_ne_true _ (λ e. h.0 ((bytes_eq-Decides file (codes "-")).0 e)) };
  product = refl;
  act_is = refl;
}
known words (acts.Wreath file) h = record {
  keyword = Wreath;
  others = file ∷ [];
  words_are = h.1;
  passes = record { known = refl; count = refl; numbers = refl; limit = refl; name = false_from_ne_true _ (λ e. h.0 ((bytes_eq-Decides file (codes "-")).0 e)) };
  product = refl;
  act_is = refl;
}
known words acts.Undo h = alone Undo words h (record { known = refl; count = refl; numbers = refl; limit = refl; name = refl }) refl
known words acts.Redo h = alone Redo words h (record { known = refl; count = refl; numbers = refl; limit = refl; name = refl }) refl
known words acts.Show h = alone Show words h (record { known = refl; count = refl; numbers = refl; limit = refl; name = refl }) refl
known words acts.Raw h = alone Raw words h (record { known = refl; count = refl; numbers = refl; limit = refl; name = refl }) refl
known words acts.Classes h = alone Classes words h (record { known = refl; count = refl; numbers = refl; limit = refl; name = refl }) refl
known words acts.Constants h = alone Constants words h (record { known = refl; count = refl; numbers = refl; limit = refl; name = refl }) refl
known words acts.Tests h = alone Tests words h (record { known = refl; count = refl; numbers = refl; limit = refl; name = refl }) refl
known words (acts.Array set) h =
    let n = numbers_behind (codes "array" ∷ []) set words h.1 in
    numbered Array set words _ n refl (le-leb 1 (length set) h.0) refl refl refl refl (rw (forms_values n.others _ n.forms) refl)
known words acts.Closed h = alone Closed words h (record { known = refl; count = refl; numbers = refl; limit = refl; name = refl }) refl
known words (acts.Quotient set) h =
    let n = numbers_behind (codes "quotient" ∷ []) set words h.1 in
    numbered Quotient set words _ n refl (le-leb 1 (length set) h.0) refl refl refl refl (rw (forms_values n.others _ n.forms) refl)
known words (acts.Sub x set) h =
    let n = numbers_behind (codes "sub" ∷ []) (x ∷ set) words h.1 in
    numbered Sub (x ∷ set) words _ n refl (le-leb 2 (length (x ∷ set)) (omega (arith, h.0))) refl refl refl refl (rw (forms_values n.others _ n.forms) refl)
known words (acts.Close string) h =
    let n = numbers_behind (codes "close" ∷ []) string words h.1 in
    numbered Close string words _ n refl (le-leb 1 (length string) h.0) refl refl refl refl (rw (forms_values n.others _ n.forms) refl)
known words acts.Good h = alone Good words h (record { known = refl; count = refl; numbers = refl; limit = refl; name = refl }) refl
known words (acts.Mergings most None) h =
    let n = numbers_behind (codes "mergings" ∷ []) (most ∷ []) words h.1 in
    let one = one_word n.others most n.forms in
    record {
      keyword = Mergings;
      others = one.0 ∷ [];
      words_are = n.words_are ∙ ap (λ ws. codes "mergings" ∷ ws) one.1;
      passes = record { known = refl; count = refl; numbers = rw (is_number-form one.0 most one.2) refl; limit = in_limit one.0 most [] one.2 h.0; name = refl };
      product = refl;
      act_is = ap (λ k. acts.Mergings k None) (sym (value-form one.0 most one.2));
    }
known words (acts.Mergings most (Some after)) h =
    let word = h.2.0 in
    let n = numbers_behind (codes "mergings" ∷ word ∷ codes "after" ∷ []) after words h.2.2 in
    let len = forms_length n.others after n.forms in
    record {
      keyword = Mergings;
      others = word ∷ codes "after" ∷ n.others;
      words_are = n.words_are;
      passes = record {
        known = refl;
        count = or_right _ _ (le-leb 3 (suc (suc (length n.others))) (omega (arith, len, h.1)));
        numbers = rw (is_number-form word most h.2.1, forms_all n.others after n.forms) refl;
        limit = in_limit word most (codes "after" ∷ n.others) h.2.1 h.0;
        name = refl;
      };
      product = refl;
      act_is = merged word n.others most after (value-form word most h.2.1) (forms_values n.others after n.forms);
    }
known words (acts.Trace version) (inl h) = record {
  keyword = Trace;
  others = [];
  words_are = h.1;
  passes = record { known = refl; count = refl; numbers = refl; limit = refl; name = refl };
  product = refl;
  act_is = ap acts.Trace h.0;
}
known words (acts.Trace version) (inr h) = record {
  keyword = Trace;
  others = codes "2" ∷ [];
  words_are = h.1;
  passes = record { known = refl; count = refl; numbers = refl; limit = refl; name = refl };
  product = refl;
  act_is = ap acts.Trace h.0;
}
known words (acts.Write Graph6 set) h =
    let n = numbers_behind (codes "write" ∷ codes "graph6" ∷ []) set words h.1 in
    let len = forms_length n.others set n.forms in
    record {
      keyword = Write;
      others = codes "graph6" ∷ n.others;
      words_are = n.words_are;
      passes = record {
        known = refl;
        count = le-leb 2 (suc (length n.others)) (omega (arith, len, h.0));
        numbers = rw (forms_all n.others set n.forms) refl;
        limit = refl;
        name = refl;
      };
      product = refl;
      act_is = rw (forms_values n.others set n.forms) refl;
    }
known words (acts.Write Digraph6 set) h =
    let n = numbers_behind (codes "write" ∷ codes "digraph6" ∷ []) set words h.1 in
    let len = forms_length n.others set n.forms in
    record {
      keyword = Write;
      others = codes "digraph6" ∷ n.others;
      words_are = n.words_are;
      passes = record {
        known = refl;
        count = le-leb 2 (suc (length n.others)) (omega (arith, len, h.0));
        numbers = rw (forms_all n.others set n.forms) refl;
        limit = refl;
        name = refl;
      };
      product = refl;
      act_is = rw (forms_values n.others set n.forms) refl;
    }

some_same : (k l : Keyword) → Some k ≡ Some l → k ≡ l
some_same k l e = cc

-- a line is its keyword and the words behind it in one way
pub same_keyword : (k l : Keyword) (xs ys : List (List ℕ)) → spelling k ∷ xs ≡ spelling l ∷ ys → (k ≡ l) × (xs ≡ ys)
same_keyword k l xs ys e =
    let heads : spelling k ≡ spelling l = cc in
    let rests : xs ≡ ys = cc in
    (some_same k l (sym (keyword_of-spelling k) ∙ ap keyword_of heads ∙ keyword_of-spelling l), rests)

-- words ask for at most one act
pub one_act : (words : List (List ℕ)) (act other : Act) → AsksFor words act → AsksFor words other → act ≡ other
one_act words act other h g =
    let a = known words act h in
    let b = known words other g in
    let same = same_keyword a.keyword b.keyword a.others b.others (sym a.words_are ∙ b.words_are) in
    a.act_is ∙ ap (λ k. act_with k a.others) same.0 ∙ ap (λ ws. act_with b.keyword ws) same.1 ∙ sym b.act_is

none_left : (others : List (List ℕ)) → eqb (length others) 0 ≡ true → others ≡ []
none_left [] e = refl
none_left (word ∷ others) e = absurd (omega (arith, eqb-true (suc (length others)) 0 e))

three_numbers : (xs : List ℕ) → eqb (length xs) 3 ≡ true → get_or xs 0 0 ∷ get_or xs 1 0 ∷ get_or xs 2 0 ∷ [] ≡ xs
three_numbers [] e = cc
three_numbers (x ∷ []) e = cc
three_numbers (x ∷ y ∷ []) e = cc
three_numbers (x ∷ y ∷ z ∷ []) e = refl
three_numbers (x ∷ y ∷ z ∷ w ∷ ws) e = absurd (omega (arith, eqb-true (suc (suc (suc (suc (length ws))))) 3 e))

two_numbers : (xs : List ℕ) → eqb (length xs) 2 ≡ true → get_or xs 0 0 ∷ get_or xs 1 0 ∷ [] ≡ xs
two_numbers [] e = cc
two_numbers (x ∷ []) e = cc
two_numbers (x ∷ y ∷ []) e = refl
two_numbers (x ∷ y ∷ z ∷ zs) e = absurd (omega (arith, eqb-true (suc (suc (suc (length zs)))) 2 e))

one_number : (xs : List ℕ) → eqb (length xs) 1 ≡ true → get_or xs 0 0 ∷ [] ≡ xs
one_number [] e = cc
one_number (x ∷ []) e = refl
one_number (x ∷ y ∷ ys) e = absurd (omega (arith, eqb-true (suc (suc (length ys))) 1 e))

first_number : (xs : List ℕ) → 1 ≤ length xs → get_or xs 0 0 ∷ drop 1 xs ≡ xs
first_number [] h = absurd (omega arith)
first_number (x ∷ xs) h = refl

-- words behind a keyword that are all numbers
all_numbers : (others : List (List ℕ)) → not (list_all is_number others) ≡ false → AllZip IsNumberForm others (map value others)
all_numbers others h = all_forms others (not-false _ h)

limit_passed : (word : List ℕ) (others : List (List ℕ)) → is_number word ≡ true → has_bad_limit Mergings (word ∷ others) ≡ false → IsLimit (value word)
limit_passed word others number e =
    let within : is_beyond_limit (value word) ≡ false = rw (number_of-value word number) at e in
    let parts = or_parts (eqb (value word) 0) (ltb MOST_MERGINGS (value word)) within in
    let positive : value word ≡ 0 → ⊥ = eqb-false (value word) 0 parts.0 in
    (omega arith, ltb-false MOST_MERGINGS (value word) parts.1)

-- words of which no test holds ask for the act of their keyword
pub asked : (keyword : Keyword) (others : List (List ℕ)) → Passes keyword others → AsksFor (spelling keyword ∷ others) (act_with keyword others)
asked Set others p = (refl, subst (λ ns. AllZip IsNumberForm others ns) (sym (three_numbers (map value others) (rw length-map p.count))) (all_numbers others p.numbers))
asked Both others p = (refl, subst (λ ns. AllZip IsNumberForm others ns) (sym (three_numbers (map value others) (rw length-map p.count))) (all_numbers others p.numbers))
asked Fix others p = (refl, subst (λ ns. AllZip IsNumberForm others ns) (sym (one_number (map value others) (rw length-map p.count))) (all_numbers others p.numbers))
asked Join others p = (refl, subst (λ ns. AllZip IsNumberForm others ns) (sym (two_numbers (map value others) (rw length-map p.count))) (all_numbers others p.numbers))
asked Adopt others p = ap (λ ws. codes "adopt" ∷ ws) (none_left others p.count)
asked Fuse others p = (rw length-map (leb-true 1 (length others) p.count), (refl, all_numbers others p.numbers))
asked Direct [] p = absurd (false≢true p.count)
asked Direct (word ∷ []) p = (λ e. both_ways _ p.name ((bytes_eq-Decides word (codes "-")).1 e), refl)
asked Direct (word ∷ next ∷ words) p = absurd (omega (arith, eqb-true (suc (suc (length words))) 1 p.count))
asked Wreath [] p = absurd (false≢true p.count)
asked Wreath (word ∷ []) p = (λ e. both_ways _ p.name ((bytes_eq-Decides word (codes "-")).1 e), refl)
asked Wreath (word ∷ next ∷ words) p = absurd (omega (arith, eqb-true (suc (suc (length words))) 1 p.count))
asked Undo others p = ap (λ ws. codes "undo" ∷ ws) (none_left others p.count)
asked Redo others p = ap (λ ws. codes "redo" ∷ ws) (none_left others p.count)
asked Show others p = ap (λ ws. codes "show" ∷ ws) (none_left others p.count)
asked Raw others p = ap (λ ws. codes "raw" ∷ ws) (none_left others p.count)
asked Classes others p = ap (λ ws. codes "classes" ∷ ws) (none_left others p.count)
asked Constants others p = ap (λ ws. codes "constants" ∷ ws) (none_left others p.count)
asked Tests others p = ap (λ ws. codes "tests" ∷ ws) (none_left others p.count)
asked Array others p = (rw length-map (leb-true 1 (length others) p.count), (refl, all_numbers others p.numbers))
asked Closed others p = ap (λ ws. codes "closed" ∷ ws) (none_left others p.count)
asked Quotient others p = (rw length-map (leb-true 1 (length others) p.count), (refl, all_numbers others p.numbers))
asked Sub others p =
    let many : 2 ≤ length (map value others) = rw length-map (leb-true 2 (length others) p.count) in
    (simp length-drop (omega arith), (refl, subst (λ ns. AllZip IsNumberForm others ns) (sym (first_number (map value others) (omega arith))) (all_numbers others p.numbers)))
asked Close others p = (rw length-map (leb-true 1 (length others) p.count), (refl, all_numbers others p.numbers))
asked Good others p = ap (λ ws. codes "good" ∷ ws) (none_left others p.count)
asked Mergings [] p = absurd (false≢true p.count)
asked Mergings (word ∷ []) p =
    let number : is_number word ≡ true = (and_parts _ _ (not-false _ p.numbers)).0 in
    (limit_passed word [] number p.limit, (refl, (form-is_number word number, tt)))
asked Mergings (word ∷ next ∷ []) p = absurd (false≢true p.count)
asked Mergings (word ∷ next ∷ after ∷ words) p =
    let is_after : next ≡ codes "after" = (bytes_eq-Decides next (codes "after")).0 (not-false _ p.known) in
    let forms = and_parts _ _ (not-false _ p.numbers) in
    subst (λ w. AsksFor (codes "mergings" ∷ word ∷ w ∷ after ∷ words) (act_with Mergings (word ∷ w ∷ after ∷ words))) (sym is_after)
    (subst (λ act. AsksFor (codes "mergings" ∷ word ∷ codes "after" ∷ after ∷ words) act) (merged word (after ∷ words) (value word) (map value (after ∷ words)) refl refl)
    (limit_passed word (next ∷ after ∷ words) forms.0 p.limit, omega arith, (word, form-is_number word forms.0, (refl, (refl, (refl, all_forms (after ∷ words) forms.1))))))
asked Trace [] p = inl (refl, refl)
asked Trace (word ∷ []) p = inr (refl, ap (λ w. codes "trace" ∷ w ∷ []) ((bytes_eq-Decides word (codes "2")).0 (not-false _ p.known)))
asked Trace (word ∷ next ∷ words) p = absurd (omega (arith, leb-true (suc (suc (length words))) 1 p.count))
asked Write [] p = absurd (false≢true p.count)
asked Write (form ∷ words) p =
    let many : 2 ≤ suc (length words) = leb-true 2 (suc (length words)) p.count in
    let some : 0 < length (map value words) = rw length-map (omega arith) in
    let forms = all_numbers words p.numbers in
    ⊎_elim
    (λ e. subst (λ f. AsksFor (codes "write" ∷ f ∷ words) (act_with Write (f ∷ words))) (sym ((bytes_eq-Decides form (codes "graph6")).0 e)) (some, (refl, (refl, forms))))
    (λ e. subst (λ f. AsksFor (codes "write" ∷ f ∷ words) (act_with Write (f ∷ words))) (sym ((bytes_eq-Decides form (codes "digraph6")).0 e)) (some, (refl, (refl, forms))))
    (or_cases _ _ (not-false _ p.known))
