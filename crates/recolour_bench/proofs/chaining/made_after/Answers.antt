use Rattle.std.specs.Prelude.{option_copied}
use Rattle.trace_text.specs.Chains.{stage_start}
use Rattle.recolour_bench.proofs.MadeStages.{IsMadeOf, made_closure, made_from}
use Rattle.recolour_bench.proofs.chaining.made_after.Goals as goal

is : (c : goal.After-made_of) → IsMadeOf c.in_ok-closed.closed c.args.start c.made_of.result
is c = record { steps = c.made_of.ensures.steps; closure = c.made_of.ensures.closure; last = c.made_of.ensures.last; start = c.made_of.ensures.start }

pub returns-clause-closure : goal.returns-clause-closure
returns-clause-closure c = made_closure c.args.raw c.in_ok-closed.closed c.args.start c.made_of.result (is c) c.in_ok-closed.ensures.closure

pub returns-clause-made : goal.returns-clause-made
returns-clause-made c = made_from (stage_start (option_copied c.args.last) c.args.raw) c.in_ok-closed.closed c.args.start c.made_of.result (is c) c.in_ok-closed.ensures.reached
