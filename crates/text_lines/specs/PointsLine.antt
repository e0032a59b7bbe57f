-- The line of the number of points.
use Rattle.std.specs.Prelude.{ℕ, ◌&&◌, nat_le, List, codes, Option, None, unwrap_or, is_some, drop, nat_eq, if◌then◌else◌}
use Rattle.std.specs.List.{starts_with}
use Rattle.pair_colours.specs.declared.coloured_pairs.TheConstants.{MOST_POINTS}
use Rattle.text_lines.specs.Number.{number_of}

-- `points` and a number of points
abbrev pub points_on : List ℕ → Option ℕ
points_on line =
    if starts_with nat_eq line (codes "points ") && is_some (number_of (drop 7 line))
    && nat_le 1 (unwrap_or (number_of (drop 7 line)) 0) && nat_le (unwrap_or (number_of (drop 7 line)) 0) MOST_POINTS
    then number_of (drop 7 line) else None
