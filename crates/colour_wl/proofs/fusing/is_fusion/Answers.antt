use Rattle.colour_wl.proofs.ColourRounds.{fusion_answer}
use Rattle.colour_wl.proofs.fusing.is_fusion.Goals as goal

pub returns : goal.returns
returns c =
    let e = c.in_ok-next.ensures in
    fusion_answer c.args.k.now c.args.a.now c.in_ok-next.next c.is_none.result e.within c.requires e.growth e.forced e.finer e.coherent c.is_none.ensures
