use Rattle.std.proofs.Common.{sym, ◌∙◌, arith}
use Rattle.std.proofs.lemmas.Bool.{false≢true}
use Rattle.pair_colours.specs.ColourSets.{is_in}
use Rattle.quotients.proofs.Leasts.{row_from_closed}
use Rattle.quotients.proofs.classes.is_closed.Goals as goal

pub returns-then-not-is_class_at : goal.returns-then-not-is_class_at
returns-then-not-is_class_at c = (
  λ t. absurd (false≢true t),
  λ h. sym c.if-not-is_class_at.true ∙ c.is_class_at.ensures.1 (row_from_closed c.args.k.now (is_in c.args.members.now) c.args.leasts.now c.requires h c.loop-x.x (omega arith)),
)
