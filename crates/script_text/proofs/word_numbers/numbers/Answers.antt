use Rattle.std.proofs.Common.{arith}
use Rattle.std.proofs.lemmas.Result.{err_from_is_err_and}
use Rattle.script_text.proofs.FaultyWords.{bad_at, forms_more, forms_count}
use Rattle.script_text.proofs.word_numbers.numbers.Goals as goal

pub returns-in_err-number-clause-err : goal.returns-in_err-number-clause-err
returns-in_err-number-clause-err c =
    let p = err_from_is_err_and c.from_residual.result c.from_residual.ensures.1 in
    rw (p.1, p.2) (bad_at c.args.words.now c.loop-word.word-index _ _ (omega arith) c.in_err-number.ensures.err)

pub push-requires : goal.push-requires
push-requires c = omega (arith, forms_count c.args.words.now c.loop-word.numbers c.loop-word.word-index (omega arith) c.loop-word.invariant)

pub loop-word-preserved : goal.loop-word-preserved
loop-word-preserved c =
    rw c.in_ok-push.ensures.ok (forms_more c.args.words.now c.loop-word.numbers c.loop-word.word-index _ _ (omega arith) c.loop-word.invariant c.in_ok-number.ensures.ok)
