use Rattle.std.proofs.Common.{◌*◌, ap, arith}
use Rattle.split_cells.proofs.PartsShown.{shown_start, shown_end}
use Rattle.split_cells.proofs.renumbering.part_numbers.Goals as goal

pub loop-place-init : goal.loop-place-init
loop-place-init c =
    shown_start c.args.partition.now c.args.round.now c.new.result.items c.in_ok-vec.field-0.items c.args.rank c.requires.rank c.new.ensures.items (c.in_ok-vec.ensures.items_if_clones_equal (λ y e. e))

pub returns : goal.returns
returns c =
    let P = c.args.partition.now in
    shown_end P c.args.round.now c.loop-place.parts.numbers.items c.loop-place.parts.seen.items c.loop-place.parts.fresh c.loop-place.place
    (omega (arith, c.loop-place-test.false, ap (λ n. n * c.size-2.result) c.size.ensures.points, ap (λ n. P.size * n) c.size-2.ensures.points)) c.loop-place.invariant
