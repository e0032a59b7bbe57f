use Rattle.std.proofs.Common.{◌≡◌, ◌==◌, ◌+◌, ◌-◌, nat_lt, count_by, get_or, map, if◌then◌else◌}
use Rattle.pair_colours.specs.Colouring.{points}
use Rattle.equitable.proofs.partition.parted.Given as goal

abbrev pub invariant-loop-x : goal.invariant-loop-x
invariant-loop-x l =
    l.parted.items ≡ map (λ x. if get_or l.cells x 0 == l.cell
    then (if count_by (λ other. nat_lt other (get_or l.keys x 0)) l.met.keys == 0 then l.cell else l.count +
    (count_by (λ other. nat_lt other (get_or l.keys x 0)) l.met.keys - 1))
    else get_or l.cells x 0) (points l.x)
