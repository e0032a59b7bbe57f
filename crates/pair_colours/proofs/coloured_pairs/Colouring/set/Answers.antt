use Rattle.std.proofs.Common.{arith}
use Rattle.std.proofs.lemmas.Grind.{common_steps}
use Rattle.pair_colours.proofs.Writes.{set_other_pair}
use Rattle.pair_colours.proofs.coloured_pairs.Colouring.set.Goals as goal

pub returns-clause-others : goal.returns-clause-others
returns-clause-others c = λ u v hu hv ne.
    let w = set_other_pair c.self.inside.colours.items c.args.self.now.size c.args.x c.args.y u v c.args.colour c.requires.column hv ne in
    grind (arith, common_steps, w, c.self.view_is)
