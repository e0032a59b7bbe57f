-- Numbers on a line.
use Rattle.std.specs.Prelude.{ℕ, ◌==◌, List, [], ◌∷◌, map, decimal, if◌then◌else◌}
use Rattle.std.specs.List.{join_with_byte}

-- the numbers in decimal, with one byte between each two
abbrev pub joined : ℕ → List ℕ → List ℕ
joined separator numbers = join_with_byte separator (map decimal numbers)

abbrev pub space : ℕ
space = 32

abbrev pub comma : ℕ
comma = 44

-- the numbers with single spaces
abbrev pub spaced : List ℕ → List ℕ
spaced numbers = joined space numbers

-- what stands before the number at a place: nothing at the first, and else the separator
abbrev pub separator_before : ℕ → ℕ → List ℕ
separator_before separator place = if place == 0 then [] else separator ∷ []
