-- The tests of a line whose first word is a keyword.
use Rattle.std.proofs.Common.{◌≡◌, ℕ, Bool, true, false, cond, List, [], ◌∷◌, length, Option, Some, None, bytes_eq, refl, subst, inl, inr, ⊎_elim, ◌⊎◌}
use Rattle.std.specs.Prelude.{find}
use Rattle.std.proofs.lemmas.Bool.{not-false, not_from_true}
use Rattle.std.proofs.lemmas.Slice.Eq.{bytes_eq-Decides}
use Rattle.pair_colours.specs.Tests.{first_that_holds}
use Rattle.pair_colours.proofs.TestLemmas.{AllFail-from_none, none-from_AllFail}
use Rattle.script_text.specs.declared.faults.ScriptWord.TheVariants.{UnknownWord}
use Rattle.script_text.specs.declared.keywords.Keyword.{Keyword}
use Rattle.script_text.specs.declared.keywords.Keyword.TheVariants.{Set, Both, Fix, Join, Adopt, Fuse, Direct, Wreath, Undo, Redo, Show, Raw, Classes, Constants, Tests, Array, Closed, Quotient, Sub, Close, Good, Mergings, Trace, Write}
use Rattle.script_text.specs.Keyword.{spelling, keywords, keyword_of, allows, has_unknown_word}
use Rattle.script_text.specs.LineFaults.{has_bad_number, has_bad_limit, has_bad_name, keyword_tests, word_tests}

-- a word is the keyword that it spells
pub keyword_of-spelling : (keyword : Keyword) → keyword_of (spelling keyword) ≡ Some keyword
unfolding keyword_of
keyword_of-spelling Set = refl
keyword_of-spelling Both = refl
keyword_of-spelling Fix = refl
keyword_of-spelling Join = refl
keyword_of-spelling Adopt = refl
keyword_of-spelling Fuse = refl
keyword_of-spelling Direct = refl
keyword_of-spelling Wreath = refl
keyword_of-spelling Undo = refl
keyword_of-spelling Redo = refl
keyword_of-spelling Show = refl
keyword_of-spelling Raw = refl
keyword_of-spelling Classes = refl
keyword_of-spelling Constants = refl
keyword_of-spelling Tests = refl
keyword_of-spelling Array = refl
keyword_of-spelling Closed = refl
keyword_of-spelling Quotient = refl
keyword_of-spelling Sub = refl
keyword_of-spelling Close = refl
keyword_of-spelling Good = refl
keyword_of-spelling Mergings = refl
keyword_of-spelling Trace = refl
keyword_of-spelling Write = refl

chosen : {X : Type 0} (x y : X) (b : Bool) (rest : Option X) → cond b (Some y) rest ≡ Some x → ((b ≡ true) × (y ≡ x)) ⊎ (rest ≡ Some x)
chosen x y true rest e = inl (refl, cc)
chosen x y false rest e = inr e

find_passes : {X : Type 0} (p : X → Bool) (x : X) (xs : List X) → find p xs ≡ Some x → p x ≡ true
find_passes p x [] e = cc
find_passes p x (y ∷ ys) e =
    let after : find p ys ≡ Some x → p x ≡ true = find_passes p x ys in
    ⊎_elim (λ here. subst (λ z. p z ≡ true) here.1 here.0) after (chosen x y (p y) (find p ys) e)

-- and it spells the keyword that it is
pub spelling-keyword_of : (word : List ℕ) (keyword : Keyword) → keyword_of word ≡ Some keyword → word ≡ spelling keyword
unfolding keyword_of
spelling-keyword_of word keyword e =
    (bytes_eq-Decides word (spelling keyword)).0 (find_passes (λ k. bytes_eq word (spelling k)) keyword keywords e)

pub word_tests-spelling : (keyword : Keyword) (others : List (List ℕ)) → word_tests (spelling keyword ∷ others) ≡ keyword_tests keyword others
word_tests-spelling keyword others = rw (keyword_of-spelling keyword) refl

-- the first word is no keyword
pub unknown_first : (first : List ℕ) (others : List (List ℕ)) → keyword_of first ≡ None → first_that_holds (word_tests (first ∷ others)) ≡ Some UnknownWord
unknown_first first others e = rw e refl

-- no test holds of the words behind a keyword
pub record Passes (keyword : Keyword) (others : List (List ℕ)) : Type 0 where
  pub known : has_unknown_word keyword others ≡ false
  pub count : allows keyword (length others) ≡ true
  pub numbers : has_bad_number keyword others ≡ false
  pub limit : has_bad_limit keyword others ≡ false
  pub name : has_bad_name keyword others ≡ false

pub no_fault : (keyword : Keyword) (others : List (List ℕ)) → Passes keyword others → first_that_holds (keyword_tests keyword others) ≡ None
no_fault keyword others p = none-from_AllFail (keyword_tests keyword others) (p.known, (not_from_true _ p.count, (p.numbers, (p.limit, (p.name, tt)))))

pub passes_all : (keyword : Keyword) (others : List (List ℕ)) → first_that_holds (keyword_tests keyword others) ≡ None → Passes keyword others
passes_all keyword others e =
    let fails = AllFail-from_none (keyword_tests keyword others) e in
    record { known = fails.0; count = not-false _ fails.1.0; numbers = fails.1.1.0; limit = fails.1.1.1.0; name = fails.1.1.1.1.0 }
