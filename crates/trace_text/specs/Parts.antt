-- The parts of one class, in the order of their keys.
use Rattle.std.specs.Prelude.{◌==◌, nat_lt, ℕ, ◌+◌, ◌-◌, List, map, filter, count_by, if◌then◌else◌}
use Rattle.pair_colours.specs.Colouring.{PairColouring, colour_at}
use Rattle.pair_colours.specs.Naming.{walk, first_met, rank_of}
use Rattle.trace_text.specs.Partition.{coloured_by}

-- the different keys of the pairs in class k, where (x, y) has the key `key x y`
abbrev pub keys_in : PairColouring → ℕ → (ℕ → ℕ → ℕ) → List ℕ
keys_in P k key = first_met (map (λ p. key p.0 p.1) (filter (λ p. colour_at P p.0 p.1 == k) (walk P.size)))

-- the number of the part of class k that has so many parts before it: the first part keeps k, and the next ones get the rank r, r + 1, ..
abbrev pub part_number : PairColouring → ℕ → ℕ → ℕ
part_number P k before = if before == 0 then k else rank_of P + (before - 1)

-- P with class k parted, and the pairs of the other classes as they were
abbrev pub class_parted_by : PairColouring → ℕ → (ℕ → ℕ → ℕ) → PairColouring
class_parted_by P k key =
    coloured_by P.size (λ x y. if colour_at P x y == k then part_number P k (count_by (λ other. nat_lt other (key x y)) (keys_in P k key)) else colour_at P x y)
