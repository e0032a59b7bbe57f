use Rattle.std.proofs.Common.{◌+◌, ◌≤◌, length, arith, refl}
use Rattle.pair_colours.specs.Naming.{rank_of}
use Rattle.report_text.proofs.ConstantLists.{length_more, listed-few}
use Rattle.report_text.proofs.constants.entry_count.Goals as goal

pub overflow_add-count : goal.overflow_add-count
overflow_add-count c =
    let K = c.args.k.now in
    let below : c.loop-class.class + 1 ≤ rank_of K = omega arith in
    let few = listed-few K (c.loop-class.class + 1) c.rank-class-end.ensures.fits below in
    let more = length_more K c.loop-class.class c.entries.result.now c.entries.ensures.row c.entries.ensures.classes c.loop-class.count (c.loop-class.count + length c.entries.result.now) c.loop-class.invariant refl in
    omega (arith, few, more)

pub loop-class-preserved : goal.loop-class-preserved
loop-class-preserved c =
    length_more c.args.k.now c.loop-class.class c.entries.result.now c.entries.ensures.row c.entries.ensures.classes c.loop-class.count _ c.loop-class.invariant refl
