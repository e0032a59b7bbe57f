use Rattle.std.proofs.Common.{sym, ap, ◌∙◌}
use Rattle.std.proofs.lemmas.Result.{IfOk-weaker}
use Rattle.array_tables.specs.Parameters.{array_of}
use Rattle.neighbour_answers.specs.TableAnswer.{answer_by, table_text_of}
use Rattle.neighbour_answers.proofs.table_answers.table_answer.Goals as goal

pub returns-in-Ok : goal.returns-in-Ok
returns-in-Ok c =
    let A = array_of c.args.b.now c.args.c.now in
    let accepted = ap (answer_by A) c.in-Ok.ensures.accepted in
    IfOk-weaker c.table_text.result _ _ (λ text e. e ∙ ap table_text_of c.in-Ok.ensures.table ∙ sym accepted) c.table_text.ensures
