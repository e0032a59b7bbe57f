use Rattle.std.proofs.Common.{◌≡◌, Option, sym, subst}
use Rattle.std.specs.Prelude.{IfSome}
use Rattle.cohere_inputs.specs.Task.{Task}
use Rattle.cohere_core.specs.Run.{IfNothingIsLoadedFor, IsStatusWithoutFaults}
use Rattle.cohere_core.proofs.running.run.Goals as goal

pub returns-in-Some-clause-complete : goal.returns-in-Some-clause-complete
returns-in-Some-clause-complete g c =
    λ calm still. subst (λ (asked : Option Task). IfSome asked (λ task. IsStatusWithoutFaults task c.carry_out.result (g.S.Store.files c.args.store.now)))
    (sym c.in-Some.ensures.task) (c.carry_out.ensures.ending.complete calm still)

pub returns-in-Some-clause-same_store : goal.returns-in-Some-clause-same_store
returns-in-Some-clause-same_store g c =
    subst (λ (asked : Option Task). IfNothingIsLoadedFor asked (c.carry_out.new.store ≡ c.args.store.now)) (sym c.in-Some.ensures.task) c.carry_out.ensures.same_store
