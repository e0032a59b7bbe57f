use Rattle.std.proofs.Common.{sym, ◌∙◌}
use Rattle.std.proofs.lemmas.Result.{err_from_is_err_and}
use Rattle.text_lines.specs.Views.{part_of}
use Rattle.script_text.proofs.LineLemmas.{words_fail}
use Rattle.script_text.proofs.LineWords.{are_others, others_few, others_ascii, others_texts}
use Rattle.script_text.proofs.reading.words_act.Goals as goal

pub act_of-requires-clause-few : goal.act_of-requires-clause-few
act_of-requires-clause-few c =
    let o = are_others (part_of c.args.line) (part_of c.in-Some.first) c.words-words.result c.next.new.self c.in_ok-others.others.items c.words-words.ensures c.in-Some.ensures.steps c.in_ok-others.ensures.ok in
    rw c.deref.ensures.value (others_few o c.requires.few)

pub act_of-requires-clause-ascii : goal.act_of-requires-clause-ascii
act_of-requires-clause-ascii c =
    let o = are_others (part_of c.args.line) (part_of c.in-Some.first) c.words-words.result c.next.new.self c.in_ok-others.others.items c.words-words.ensures c.in-Some.ensures.steps c.in_ok-others.ensures.ok in
    rw c.deref.ensures.value (others_ascii o c.requires.bytes)

pub returns-in_err-act-clause-err : goal.returns-in_err-act-clause-err
returns-in_err-act-clause-err c =
    let p = err_from_is_err_and c.from_residual-in_err-act.result c.from_residual-in_err-act.ensures.1 in
    let o = are_others (part_of c.args.line) (part_of c.in-Some.first) c.words-words.result c.next.new.self c.in_ok-others.others.items c.words-words.ensures c.in-Some.ensures.steps c.in_ok-others.ensures.ok in
    rw (p.1, p.2) (words_fail _ _ _ (others_texts o) (sym c.is_comment.ensures ∙ c.if-is_comment.false) _ (rw c.deref.ensures.value at c.in_err-act.ensures.err))
