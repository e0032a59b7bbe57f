use Rattle.std.proofs.Common.{◌≡◌, ◌==◌, count_by}
use Rattle.pair_colours.specs.Colouring.{colour_at, points}
use Rattle.struct_consts.proofs.classes.count_from.Given as goal

abbrev pub invariant-loop-v : goal.invariant-loop-v
invariant-loop-v l = l.count ≡ count_by (λ v. colour_at l.k l.x v == l.colour) (points l.v)
