use Rattle.std.proofs.Common.{Err, ap}
use Rattle.cohere_core.specs.Move.{asked_move}
use Rattle.cohere_core.proofs.Runs.{moved_unanswered, refused_unanswered}
use Rattle.cohere_core.proofs.answers.move_answer.Goals as goal

pub returns-in-Err-clause-halfway : goal.returns-in-Err-clause-halfway
returns-in-Err-clause-halfway c =
    refused_unanswered c.refused_text.result c.in-Err.fault c.args.bench.now c.carry_out.new.bench (asked_move c.args.step)
    (λ e. c.in-Err.ensures.memory (ap Err e)) c.in-Err.ensures.refused c.in-Err.ensures.unchanged

pub returns-in-Ok-clause-halfway : goal.returns-in-Ok-clause-halfway
returns-in-Ok-clause-halfway c =
    moved_unanswered c.accepted.result c.args.bench.now c.carry_out.new.bench (asked_move c.args.step) c.in-Ok.ensures.accepted c.accepted.ensures.some
