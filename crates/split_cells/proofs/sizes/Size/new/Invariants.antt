use Rattle.std.proofs.Common.{◌≡◌, ◌+◌, ◌*◌, ◌/◌, ◌%◌, map}
use Rattle.pair_colours.specs.Colouring.{points}
use Rattle.split_cells.proofs.sizes.Size.new.Given as goal

abbrev pub invariant-loop-x : goal.invariant-loop-x
invariant-loop-x l = record {
  first : l.firsts.items ≡ map (λ p. p / l.points) (points (l.x * l.points));
  second : l.seconds.items ≡ map (λ p. p % l.points) (points (l.x * l.points));
}

abbrev pub invariant-loop-y : goal.invariant-loop-y
invariant-loop-y l = record {
  first : l.firsts.items ≡ map (λ p. p / l.points) (points (l.x * l.points + l.y));
  second : l.seconds.items ≡ map (λ p. p % l.points) (points (l.x * l.points + l.y));
}
