use Rattle.std.proofs.Common.{arith}
use Rattle.std.proofs.lemmas.Result.{err_from_is_err_and}
use Rattle.script_text.proofs.FaultyWords.{bad_at}
use Rattle.script_text.proofs.word_numbers.two_numbers.Goals as goal

pub returns-in_err-number-2-clause-err : goal.returns-in_err-number-2-clause-err
returns-in_err-number-2-clause-err c =
    let p = err_from_is_err_and c.from_residual-in_err-number-2.result c.from_residual-in_err-number-2.ensures.1 in
    rw (p.1, p.2) (bad_at c.args.words.now 1 _ _ (omega arith) c.in_err-number-2.ensures.err)
