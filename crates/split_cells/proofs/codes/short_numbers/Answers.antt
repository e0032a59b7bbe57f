use Rattle.std.proofs.Common.{◌+◌, ◌∙◌, sym, subst, arith}
use Rattle.split_cells.proofs.CodeTables.{IsShortTo, IsShortTo-skip, IsShortTo-more}
use Rattle.split_cells.proofs.codes.short_numbers.Goals as goal
use Rattle.split_cells.proofs.codes.short_numbers.Goals.{then-lead-x, else-lead-x}

pub loop-x-preserved : goal.loop-x-preserved
loop-x-preserved c =
    let pairs = c.args.pairs.now in
    let x = c.loop-x.x in
    let short = c.loop-x.short in
    elim c.if-lead-x.branch [
      | then-lead-x w ↦ subst (IsShortTo pairs (x + 1)) (sym w.short-is)
          (IsShortTo-more pairs x short w.shorten.new.short (omega (arith, c.loop-x-test.true, c.points-x-end.ensures)) c.requires.homes (sym c.lead.ensures.lead ∙ w.if-lead-x.true) w.shorten.ensures c.loop-x.invariant)
      | else-lead-x w ↦ subst (IsShortTo pairs (x + 1)) (sym w.short-is) (IsShortTo-skip pairs x short (λ e. w.if-lead-x.false (c.lead.ensures.lead ∙ e)) c.loop-x.invariant)
    ]
