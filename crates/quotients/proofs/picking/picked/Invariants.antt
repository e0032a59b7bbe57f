use Rattle.std.proofs.Common.{◌≡◌, ◌+◌, ◌*◌, length, get_or}
use Rattle.pair_colours.specs.Colouring.{colour_at}
use Rattle.quotients.proofs.Filling.{IsFilledTo}
use Rattle.quotients.proofs.picking.picked.Given as goal

abbrev pub invariant-loop-t : goal.invariant-loop-t
invariant-loop-t l = record {
  size : l.size ≡ length l.points;
  filled : IsFilledTo l.size (λ p q. colour_at l.k (get_or l.points p 0) (get_or l.points q 0)) l.part (l.s * l.size + l.t);
}

abbrev pub invariant-loop-s : goal.invariant-loop-s
invariant-loop-s l = record {
  size : l.size ≡ length l.points;
  filled : IsFilledTo l.size (λ p q. colour_at l.k (get_or l.points p 0) (get_or l.points q 0)) l.part (l.s * l.size);
}
