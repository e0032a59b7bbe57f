-- What holds of the demonstration of every number.
use Rattle.std.specs.Prelude.{ℕ}
use Rattle.pair_colours.specs.Colouring.{IsRawColouring}
use Rattle.script_text.specs.Script.{IsScript}
use Rattle.scheme_demo.specs.Demonstration.{demo_relation_of, demo_lines_of, demo_text}

-- the relation of a number is within the limits
abbrev pub DemoRelationIsRaw : Type 0
DemoRelationIsRaw = (number : ℕ) → IsRawColouring (demo_relation_of number)

-- the lines are those of the text
abbrev pub DemoLinesAreScript : Type 0
DemoLinesAreScript = IsScript demo_text demo_lines_of
