use Rattle.std.proofs.Common.{cond, Some, None, sym, ap, ◌∙◌}
use Rattle.recolour_bench.specs.declared.edits.EditFault.TheVariants.{NotGrowth}
use Rattle.recolour_bench.proofs.EditTests.{string_refusal_is}
use Rattle.recolour_bench.proofs.refusals.string_refusal.Goals as goal

pub returns-then-is_growth : goal.returns-then-is_growth
returns-then-is_growth c =
    sym (string_refusal_is c.args.closure.now c.args.string.now c.in_ok-rank.rank c.is_growth.result c.in_ok-rank.ensures c.is_growth.ensures
    ∙ ap (λ b. cond b None (Some NotGrowth)) c.if-is_growth.true)

pub returns-else-is_growth : goal.returns-else-is_growth
returns-else-is_growth c =
    sym (string_refusal_is c.args.closure.now c.args.string.now c.in_ok-rank.rank c.is_growth.result c.in_ok-rank.ensures c.is_growth.ensures
    ∙ ap (λ b. cond b None (Some NotGrowth)) c.if-is_growth.false)
