use Rattle.recolour_bench.proofs.Recoloured.{recoloured-both}
use Rattle.recolour_bench.proofs.recolouring.with_both.Goals as goal

pub returns : goal.returns
returns c =
    let one = c.set.ensures in
    let two = c.set-2.ensures in
    recoloured-both c.args.colouring.now c.in_ok-next.next c.set.new.self c.set-2.new.self c.args.x c.args.y c.args.colour
    c.in_ok-next.ensures.within.colouring c.in_ok-next.ensures.copy one.points one.changed one.others one.pair two.points two.changed two.pair two.others
