use Rattle.std.proofs.Common.{◌≡◌, ◌*◌, subst, arith}
use Rattle.split_cells.specs.Codes.{IsCodedTo}
use Rattle.split_cells.proofs.CodeTables.{IsCoded-from}
use Rattle.split_cells.proofs.codes.code_rows.Goals as goal

pub returns-clause-none : goal.returns-clause-none
returns-clause-none c =
    let pairs = c.args.pairs.now in
    let n = pairs.size in
    let end : c.loop-x.x ≡ n = omega (arith, c.loop-x.auto.x-end, c.loop-x-test.false, c.points-x-end.ensures) in
    IsCoded-from pairs c.args.short.now c.requires.short.low c.loop-x.codes (subst (λ x. IsCodedTo pairs c.args.short.now (x * n) c.loop-x.codes) end c.loop-x.invariant)
