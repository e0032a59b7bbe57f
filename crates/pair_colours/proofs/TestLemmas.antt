-- Lists of tests, of which the first that holds decides.
use Rattle.std.proofs.Common.{◌≡◌, Bool, true, false, cond, List, [], ◌∷◌, ◌++◌, Option, Some, None, refl, ap, ◌∙◌}
use Rattle.std.specs.List.{AllByRecursion}
use Rattle.std.specs.Option.{option_or}
use Rattle.pair_colours.specs.Tests.{first_that_holds}
use Rattle.pair_colours.proofs.ListLemmas.{Each-append}

-- each of the tests fails
abbrev pub AllFail : {X : Type 0} → List (Bool × X) → Type 0
AllFail tests = AllByRecursion (λ test. test.0 ≡ false) tests

-- the tests of two lists
pub AllFail-append : {X : Type 0} (xs ys : List (Bool × X)) → AllFail xs → AllFail ys → AllFail (xs ++ ys)
AllFail-append xs ys = Each-append (λ test. test.0 ≡ false) xs ys

pub AllFail-parts : {X : Type 0} (xs ys : List (Bool × X)) → AllFail (xs ++ ys) → AllFail xs × AllFail ys
AllFail-parts [] ys fails = (tt, fails)
AllFail-parts (x ∷ xs) ys fails = let rest = AllFail-parts xs ys fails.1 in ((fails.0, rest.0), rest.1)

none_by : {X : Type 0} (holds : Bool) (said : X) (rest : Option X) → cond holds (Some said) rest ≡ None → (holds ≡ false) × (rest ≡ None)
none_by true said rest e = absurd cc
none_by false said rest e = (refl, e)

-- none holds where each fails, and only there
pub AllFail-from_none : {X : Type 0} (tests : List (Bool × X)) → first_that_holds tests ≡ None → AllFail tests
AllFail-from_none [] e = tt
AllFail-from_none (test ∷ tests) e = let parts = none_by test.0 test.1 (first_that_holds tests) e in (parts.0, AllFail-from_none tests parts.1)

pub none-from_AllFail : {X : Type 0} (tests : List (Bool × X)) → AllFail tests → first_that_holds tests ≡ None
none-from_AllFail [] fails = refl
none-from_AllFail (test ∷ tests) fails = ap (λ b. cond b (Some test.1) (first_that_holds tests)) fails.0 ∙ none-from_AllFail tests fails.1

-- the first of two lists of tests
pub first_that_holds-append : {X : Type 0} (xs ys : List (Bool × X)) → first_that_holds (xs ++ ys) ≡ option_or (first_that_holds xs) (first_that_holds ys)
first_that_holds-append [] ys = refl
first_that_holds-append {X} (x ∷ xs) ys = ap (λ o. cond x.0 (Some x.1) o) (first_that_holds-append xs ys) ∙ within x.0
  where
    within : (b : Bool) → cond b (Some x.1) (option_or (first_that_holds xs) (first_that_holds ys)) ≡ option_or (cond b (Some x.1) (first_that_holds xs)) (first_that_holds ys)
    within true = refl
    within false = refl
