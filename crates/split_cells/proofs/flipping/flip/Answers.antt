use Rattle.trace_text.specs.declared.step_list.Step.TheVariants.{Flip}
use Rattle.split_cells.proofs.FaultSteps.{names_two}
use Rattle.split_cells.proofs.Labelled.{made_shown, made_parts}
use Rattle.split_cells.proofs.flipping.flip.Goals as goal

pub returns-clause-parts : goal.returns-clause-parts
returns-clause-parts c =
    let e = c.part.ensures in
    made_shown c.requires.shown (Flip c.args.k c.args.other) tt (names_two c.args.pairs.now.parting.rank c.args.k c.args.other c.requires.class c.requires.other) c.gather_turned.new.tally.counts c.gather_turned.ensures.inside
    c.part.new.pairs e.classed e.used e.size e.parts

pub returns-clause-split : goal.returns-clause-split
returns-clause-split c =
    made_parts c.requires.shown (Flip c.args.k c.args.other) tt (names_two c.args.pairs.now.parting.rank c.args.k c.args.other c.requires.class c.requires.other) c.gather_turned.new.tally.counts c.gather_turned.ensures.inside
    c.part.result c.part.ensures.split
