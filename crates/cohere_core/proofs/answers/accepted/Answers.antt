use Rattle.std.proofs.Common.{refl}
use Rattle.pair_colours.specs.Naming.{rank_of}
use Rattle.report_text.specs.EditLines.{ok_text}
use Rattle.cohere_core.proofs.answers.accepted.Goals as goal

pub returns-in_err-rank-clause-some : goal.returns-in_err-rank-clause-some
returns-in_err-rank-clause-some c =
    let K = c.closure-closure.result.now in
    (ok_text K.size (rank_of K), record { configuration = K; closure = c.closure-closure.ensures.value; holds = refl })
