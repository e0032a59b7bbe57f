use Rattle.recolour_bench.proofs.Recoloured.{recoloured-pair}
use Rattle.recolour_bench.proofs.recolouring.with_pair.Goals as goal

pub returns : goal.returns
returns c =
    let set = c.set.ensures in
    recoloured-pair c.args.colouring.now c.in_ok-next.next c.set.new.self c.args.x c.args.y c.args.colour
    c.in_ok-next.ensures.within.colouring c.in_ok-next.ensures.copy set.points set.changed set.pair set.others
