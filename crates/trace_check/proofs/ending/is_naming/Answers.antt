use Rattle.std.proofs.Common.{sym, ap, ◌∙◌}
use Rattle.pair_colours.specs.Colouring.{PairColouring}
use Rattle.pair_colours.specs.Naming.{named_of}
use Rattle.trace_check.proofs.ending.is_naming.Goals as goal

pub returns-then-size : goal.returns-then-size
returns-then-size c =
    (λ t. absurd cc, λ e. absurd (c.if-size.true (c.size.ensures.points ∙ ap (λ (C : PairColouring). C.size) e ∙ sym c.size-2.ensures.points)))

pub returns : goal.returns
returns c =
    let named = c.in_ok-named.ensures ∙ ap named_of c.in_ok-partition.ensures.classes in
    (λ t. c.is_same.ensures.0 t ∙ named, λ e. c.is_same.ensures.1 (e ∙ sym named))
