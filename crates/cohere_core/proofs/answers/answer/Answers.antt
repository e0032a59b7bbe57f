use Rattle.std.proofs.Common.{◌≡◌, Option, refl, sym, subst}
use Rattle.std.proofs.lemmas.Result.{IfOk-weaker}
use Rattle.std.specs.Prelude.{IfOk, MatchOption}
use Rattle.recolour_bench.specs.Steps as steps
use Rattle.cohere_core.specs.Answer.{Moves, Tells}
use Rattle.cohere_core.specs.Move.{asked_move}
use Rattle.cohere_core.proofs.ActLemmas.{move_is_raw, move_unanswered, no_move, query_unanswered}
use Rattle.cohere_core.proofs.answers.answer.Goals as goal

pub move_answer-requires : goal.move_answer-requires
move_answer-requires g c = move_is_raw c.args.products.now c.args.act.now (asked_move c.in-Some.step) c.requires.product.raw c.in-Some.ensures

pub returns-in-Some-clause-halfway : goal.returns-in-Some-clause-halfway
returns-in-Some-clause-halfway g c =
    move_unanswered c.move_answer.result c.args.bench.now c.move_answer.new.bench c.args.products.now c.args.act.now (asked_move c.in-Some.step)
    c.in-Some.ensures c.move_answer.ensures.halfway

pub returns-in-None-clause-halfway : goal.returns-in-None-clause-halfway
returns-in-None-clause-halfway g c = query_unanswered c.query_answer.result c.args.bench.now c.args.products.now c.args.act.now c.in-None.ensures

pub returns-in-None-clause-answered : goal.returns-in-None-clause-answered
returns-in-None-clause-answered g c =
    let h = c.args.bench.now in
    let act = c.args.act.now in
    let told = IfOk-weaker c.query_answer.result (λ text. Tells h act text.items) (λ text. (h ≡ h) × Tells h act text.items) (λ text told. (refl, told)) c.query_answer.ensures in
    subst (λ (m : Option steps.Move). IfOk c.query_answer.result (λ text. MatchOption m ((h ≡ h) × Tells h act text.items) (λ move. Moves h move h text.items)))
    (sym (no_move c.args.products.now act c.in-None.ensures)) told
