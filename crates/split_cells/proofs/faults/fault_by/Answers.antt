use Rattle.std.proofs.Common.{ℕ, ◌<◌}
use Rattle.pair_colours.specs.Closure.{Coherent}
use Rattle.split_cells.specs.Pairs.{partition_of}
use Rattle.split_cells.specs.Faults.{HasLikeRowsOnce}
use Rattle.wl_round.proofs.SumCounts.{IfNone-more}
use Rattle.split_cells.proofs.FellowPairs.{coherent_from}
use Rattle.split_cells.proofs.faults.fault_by.Goals as goal

pub returns-clause-none : goal.returns-clause-none
returns-clause-none c =
    let pairs = c.args.pairs.now in
    IfNone-more c.triangle_fault.result ((k : ℕ) → k < pairs.parting.rank → HasLikeRowsOnce (partition_of pairs) k) (Coherent (partition_of pairs))
    (coherent_from pairs c.requires.classed c.in_default.ensures.none c.in_default-without_home.ensures.none c.code_rows.new.codes c.in_default-code_rows.ensures.none)
    c.triangle_fault.ensures.none
