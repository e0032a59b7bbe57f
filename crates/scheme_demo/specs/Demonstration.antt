-- The input of the demonstration, made from a number. (It is this project's own.)
use Rattle.std.specs.Prelude.{ℕ, ◌==◌, ◌+◌, ◌-◌, ◌*◌, ◌%◌, if◌then◌else◌, List, [], ◌∷◌, map, codes}
use Rattle.std.specs.List.{flat_map}
use Rattle.pair_colours.specs.Colouring.{PairColouring, points}
use Rattle.script_text.specs.declared.acts.Act.{Act}
use Rattle.script_text.specs.declared.acts.Act.TheVariants.{Both, Fix, Join, Adopt, Undo, Tests}
use Rattle.script_text.specs.declared.acts.Line.{Line}

-- how many points the relation of a number has: 16 to 64
abbrev pub demo_size : ℕ → ℕ
demo_size number = 16 + number % 49

-- the number modulo its points
abbrev pub demo_shift : ℕ → ℕ
demo_shift number = number % demo_size number

-- the colour of the pairs (x, y) with y - x = d modulo the number of points, where d is not 0: 1, 2 or 3
abbrev pub demo_weight : ℕ → ℕ → ℕ
demo_weight number d = 1 + (d * d + demo_shift number * d) % demo_size number % 3

-- the colour of the pair (x, y)
abbrev pub demo_colour : ℕ → ℕ → ℕ → ℕ
demo_colour number x y = if x == y then 0 else demo_weight number ((y + demo_size number - x) % demo_size number)

-- the colours of row x
abbrev pub demo_row : ℕ → ℕ → List ℕ
demo_row number x = map (λ y. demo_colour number x y) (points (demo_size number))

-- the relation of a number: its rows, one after the other
unfoldable pub demo_relation_of : ℕ → PairColouring
demo_relation_of number = record { size = demo_size number; colours = flat_map (demo_row number) (points (demo_size number)) }

-- the lines, as the text of a script
unfoldable pub demo_text : List ℕ
demo_text = codes "tests\nboth 0 1 4\nundo\njoin 2 3\ntests\nfix 0\nadopt\n"

-- the line with this number, which asks for the act
abbrev pub line : ℕ → Act → Line
line number act = record { number = number; act = act }

-- the seven lines
abbrev pub demo_lines_of : List Line
demo_lines_of = line 1 Tests ∷ line 2 (Both 0 1 4) ∷ line 3 Undo ∷ line 4 (Join 2 3) ∷ line 5 Tests ∷ line 6 (Fix 0) ∷ line 7 Adopt ∷ []
