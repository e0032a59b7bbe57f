use Rattle.std.proofs.Common.{length, ap, sym, subst, arith}
use Rattle.std.specs.List.{AllByRecursion}
use Rattle.trace_text.specs.Versions.{HasStep}
use Rattle.trace_text.proofs.Ranks.{rank_of-some}
use Rattle.wl_refine.proofs.ways.Way.from.Goals as goal

pub invariant_of-result : goal.invariant_of-result
invariant_of-result c =
    (omega (arith, ap length c.new.ensures, rank_of-some c.args.start c.rank-rank.ensures.within.colouring), subst (AllByRecursion (HasStep 1)) (sym c.new.ensures) tt)
