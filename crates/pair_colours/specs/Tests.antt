-- Tests in an order, each with what is said where it holds: the first that holds decides.
use Rattle.std.specs.Prelude.{Bool, List, [], ◌∷◌, if◌then◌else◌, Option, Some, None}

-- what the first of the tests that holds says
abbrev pub first_that_holds : {X : Type 0} → List (Bool × X) → Option X
first_that_holds [] = None
first_that_holds (test ∷ tests) = if test.0 then Some test.1 else first_that_holds tests
