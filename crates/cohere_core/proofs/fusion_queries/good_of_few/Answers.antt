use Rattle.std.proofs.lemmas.Result.{IfOk-weaker}
use Rattle.cohere_core.specs.Fusions.{ListsGood}
use Rattle.cohere_core.proofs.FusionAnswers.{good_text}
use Rattle.cohere_core.proofs.fusion_queries.good_of_few.Goals as goal

pub returns-in-Ok : goal.returns-in-Ok
returns-in-Ok g c =
    let K = c.args.constants.now in
    IfOk-weaker c.sets_text.result _ (λ text. ListsGood K text.items)
    (λ text same. good_text K _ _ text.items c.requires c.begin.ensures.1 c.in-Ok.ensures.cut same)
    c.sets_text.ensures
