-- The answer of the five tests.
use Rattle.std.specs.Prelude.{ℕ, Bool, List, ◌++◌, codes, if◌then◌else◌}
use Rattle.scheme_tests.specs.declared.properties.SchemeTests.{SchemeTests}

-- whether a test holds, as a word
abbrev pub yes_or_no : Bool → List ℕ
yes_or_no holds = if holds then codes "yes" else codes "no"

-- each test, and whether it holds
abbrev pub tests_text_of : SchemeTests → List ℕ
tests_text_of tests =
    codes "tests homogeneous " ++ yes_or_no tests.homogeneous ++ codes " symmetric " ++ yes_or_no tests.symmetric
    ++ codes " commutative " ++ yes_or_no tests.commutative ++ codes " thin " ++ yes_or_no tests.thin
    ++ codes " primitive " ++ yes_or_no tests.primitive ++ codes "\n"
