use Rattle.std.proofs.lemmas.Result.{IfErr-weaker}
use Rattle.cohere_core.specs.declared.answering.SessionFault.TheVariants.{NoMemory}
use Rattle.cohere_core.specs.Added.{AddsUntil}
use Rattle.cohere_core.specs.Output.{ScriptOutput}
use Rattle.cohere_core.proofs.Runs.{at_fault, nothing_of_output, front_of_output}
use Rattle.cohere_core.proofs.answering.answer_script.Goals as goal

pub returns-in_err-bench-clause-front : goal.returns-in_err-bench-clause-front
returns-in_err-bench-clause-front g c =
    at_fault (λ fault. AddsUntil fault (ScriptOutput c.args.relation c.args.products.now c.args.lines.now) _ _) c.from_residual.result NoMemory c.from_residual.ensures.1
    (nothing_of_output c.args.relation c.args.products.now c.args.lines.now _ c.requires.raw c.requires.products)

pub returns-clause-front : goal.returns-clause-front
returns-clause-front g c =
    IfErr-weaker c.session.result _ _
    (λ fault. front_of_output fault c.args.relation c.args.products.now c.args.lines.now c.in_ok-bench.bench _ _ _ c.requires.raw c.requires.products c.in_ok-bench.ensures.started) c.session.ensures.stopped
