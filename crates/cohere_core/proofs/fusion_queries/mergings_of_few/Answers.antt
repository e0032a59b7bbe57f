use Rattle.std.proofs.Common.{◌≡◌, Err, ap, sym, ◌∙◌}
use Rattle.std.specs.Prelude.{codes}
use Rattle.std.proofs.lemmas.Result.{IfOk-weaker}
use Rattle.report_text.specs.EditLines.{refused_text_of}
use Rattle.cohere_core.specs.Fusions.{AnswersMergings, string_in}
use Rattle.cohere_core.proofs.FusionAnswers.{few_met, mergings_text, mergings_refused}
use Rattle.cohere_core.proofs.fusion_queries.mergings_of_few.Goals as goal

pub mergings_text-requires-clause-few : goal.mergings_text-requires-clause-few
mergings_text-requires-clause-few g c = few_met c.args.constants.now c.args.most _ c.args.after _ c.begin.ensures.1 c.in-Ok.ensures.cut

pub returns-in-Ok : goal.returns-in-Ok
returns-in-Ok g c =
    let K = c.args.constants.now in
    IfOk-weaker c.mergings_text.result _ (λ text. AnswersMergings K c.args.most (string_in c.args.after) text.items)
    (λ text same. mergings_text K c.args.most _ c.args.after _ text.items c.requires.few (λ no. let e = sym c.in-Ok.is ∙ c.mergings.ensures.no_growth c.requires.few no in absurd cc) c.begin.ensures.1 c.in-Ok.ensures.cut same)
    c.mergings_text.ensures

pub returns-in-Err-NotGrowth : goal.returns-in-Err-NotGrowth
returns-in-Err-NotGrowth g c =
    let K = c.args.constants.now in
    let is = c.in-Err-NotGrowth.is ∙ ap Err c.in-Err-NotGrowth.field-0-is in
    IfOk-weaker c.refused_text.result (λ text. text.items ≡ refused_text_of (codes "NotGrowth"))
    (λ text. AnswersMergings K c.args.most (string_in c.args.after) text.items)
    (λ text same. mergings_refused K c.args.most c.args.after text.items c.requires.few (c.mergings.ensures.not_growth is) same)
    c.refused_text.ensures
