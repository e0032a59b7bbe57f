use Rattle.std.proofs.lemmas.Result.{IfOk-weaker}
use Rattle.cohere_core.specs.ClosedSubsets.{ListsClosed}
use Rattle.cohere_core.proofs.ClosedLists.{closed_text}
use Rattle.cohere_core.proofs.subset_queries.closed_of_few.Goals as goal

pub returns-in-Ok : goal.returns-in-Ok
returns-in-Ok g c =
    let K = c.args.constants.now in
    IfOk-weaker c.sets_text.result _ (λ text. ListsClosed K text.items)
    (λ text same. closed_text K _ _ text.items c.requires c.begin.ensures.1 c.in-Ok.ensures.cut same)
    c.sets_text.ensures
