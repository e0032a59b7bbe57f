use Rattle.std.proofs.Common.{◌≡◌, ◌≤◌, take}
use Rattle.std.specs.Str.Parse.{digits_value}
use Rattle.pair_colours.specs.declared.coloured_pairs.TheConstants.{MOST_COLOUR}
use Rattle.relation_text.proofs.matrix_rows.colour_in.Given as goal

abbrev pub invariant-loop-digit : goal.invariant-loop-digit
invariant-loop-digit l = (l.colour ≡ digits_value 10 (take l.digit-index l.digits)) × (l.colour ≤ MOST_COLOUR)
