use Rattle.recolour_bench.proofs.LawProofs.{growth_is_tested, fibres_are_tested}
use Rattle.recolour_bench.proofs.laws.tests_of_edits.Goals as goal

pub returns-clause-growth : goal.returns-clause-growth
returns-clause-growth c = growth_is_tested

pub returns-clause-fibres : goal.returns-clause-fibres
returns-clause-fibres c = fibres_are_tested
