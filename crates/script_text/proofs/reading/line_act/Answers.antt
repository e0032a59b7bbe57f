use Rattle.std.proofs.Common.{sym, ◌∙◌}
use Rattle.std.proofs.lemmas.Result.{IfOk-weaker, IfErr-weaker}
use Rattle.text_lines.specs.Views.{part_of}
use Rattle.script_text.proofs.LineLemmas.{text_fails}
use Rattle.script_text.proofs.reading.line_act.Goals as goal

pub words_act-requires-clause-bytes : goal.words_act-requires-clause-bytes
words_act-requires-clause-bytes c = sym c.is_allowed.ensures ∙ c.if-not-is_allowed.false

pub returns-clause-ok : goal.returns-clause-ok
returns-clause-ok c =
    let bytes = sym c.is_allowed.ensures ∙ c.if-not-is_allowed.false in
    IfOk-weaker c.words_act.result _ _ (λ act asked. record { bytes = bytes; asked = asked }) c.words_act.ensures.ok

pub returns-clause-err : goal.returns-clause-err
returns-clause-err c =
    let bytes = sym c.is_allowed.ensures ∙ c.if-not-is_allowed.false in
    IfErr-weaker c.words_act.result _ _ (text_fails (part_of c.args.line) bytes) c.words_act.ensures.err
