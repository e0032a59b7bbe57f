use Rattle.std.proofs.Common.{[], arith}
use Rattle.std.proofs.lemmas.Result.{IfOk-weaker, IfErr-weaker}
use Rattle.script_text.proofs.ActWords.{forms_behind, all_mergings, mergings_after, mergings_beyond, mergings_count, nothing_behind}
use Rattle.script_text.proofs.act_words.mergings.Goals as goal

pub returns-then-words-eq1-clause-ok : goal.returns-then-words-eq1-clause-ok
returns-then-words-eq1-clause-ok c =
    IfOk-weaker c.fusions.result _ _ (all_mergings c.args.words.now _ c.in_ok-most.most c.if-words-eq1.true c.in_ok-most.ensures.ok) c.fusions.ensures.ok

pub returns-then-words-eq1-clause-err : goal.returns-then-words-eq1-clause-err
returns-then-words-eq1-clause-err c =
    IfErr-weaker c.fusions.result _ _
    (mergings_beyond c.args.words.now _ c.in_ok-most.most [] (omega arith) c.in_ok-most.ensures.ok (nothing_behind c.args.words.now c.if-words-eq1.true))
    c.fusions.ensures.err

pub returns-clause-ok : goal.returns-clause-ok
returns-clause-ok c =
    IfOk-weaker c.fusions-2.result _ _
    (mergings_after c.args.words.now _ c.in_ok-most.most c.in_ok-after.after c.requires.known (mergings_count c.args.words.now c.requires.count c.if-words-eq1.false) c.in_ok-most.ensures.ok (forms_behind c.args.words.now 2 _ c.in_ok-after.ensures.ok))
    c.fusions-2.ensures.ok

pub returns-clause-err : goal.returns-clause-err
returns-clause-err c =
    let many = mergings_count c.args.words.now c.requires.count c.if-words-eq1.false in
    IfErr-weaker c.fusions-2.result _ _
    (mergings_beyond c.args.words.now _ c.in_ok-most.most c.in_ok-after.after (omega (arith, many)) c.in_ok-most.ensures.ok (forms_behind c.args.words.now 2 _ c.in_ok-after.ensures.ok))
    c.fusions-2.ensures.err
