use Rattle.pair_colours.proofs.WalkPlaces.{pair_at_diagonal, row_below_size, pair_before_diagonal, pair_after_diagonal}
use Rattle.pair_colours.proofs.naming_walk.pair_on_walk.Goals as goal

pub returns-then-place-size-clause-pair : goal.returns-then-place-size-clause-pair
returns-then-place-size-clause-pair c = pair_at_diagonal c.args.size c.args.place c.if-place-size.true

pub returns-then-before-row-clause-pair : goal.returns-then-before-row-clause-pair
returns-then-before-row-clause-pair c = pair_before_diagonal c.args.size c.args.place c.if-place-size.false c.requires c.if-before-row.true

pub returns-then-before-row-clause-row : goal.returns-then-before-row-clause-row
returns-then-before-row-clause-row c = row_below_size c.args.size c.args.place c.if-place-size.false c.requires

pub returns-else-before-row-clause-pair : goal.returns-else-before-row-clause-pair
returns-else-before-row-clause-pair c = pair_after_diagonal c.args.size c.args.place c.if-place-size.false c.requires c.if-before-row.false
